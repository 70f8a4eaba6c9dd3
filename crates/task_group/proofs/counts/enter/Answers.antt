use Rattle.std.proofs.Common.{arith}
use Rattle.task_group.proofs.RowWrites.{at_row_set}
use Rattle.task_group.specs.Kept.{entered}
use Rattle.task_group.proofs.counts.enter.Goals as goal

pub returns-clause-entered : goal.returns-clause-entered
returns-clause-entered g c =
    at_row_set (entered c.args.admitted c.args.n) c.args.counts.now.items c.args.g
    c.index-row.result.now _ c.index-row.ensures (omega arith) c.entered.ensures
