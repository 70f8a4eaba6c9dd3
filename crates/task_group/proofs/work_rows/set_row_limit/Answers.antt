use Rattle.std.proofs.Common.{refl, arith}
use Rattle.run_model.specs.declared.groups.Group.{Group}
use Rattle.task_group.proofs.RowWrites.{at_row_set}
use Rattle.task_group.proofs.work_rows.set_row_limit.Goals as goal

pub returns-clause-set : goal.returns-clause-set
returns-clause-set g c =
    at_row_set (λ (row : Group). record row { limit = c.args.limit }) c.args.groups.now.items
    c.args.g c.index_mut.result.now _ c.index_mut.ensures.value (omega arith) refl
