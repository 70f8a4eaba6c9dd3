use Rattle.std.proofs.Common.{ℕ, Option, Some, refl, arith}
use Rattle.task_group.proofs.RowWrites.{at_row_set}
use Rattle.task_group.proofs.counts.set_link.Goals as goal

pub returns-clause-set : goal.returns-clause-set
returns-clause-set g c =
    at_row_set (λ (_ : Option ℕ). Some c.args.n) c.args.next.now.items c.args.last
    c.index_mut.result.now _ c.index_mut.ensures.value (omega arith) refl
