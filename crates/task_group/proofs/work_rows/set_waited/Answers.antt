use Rattle.run_model.proofs.Common.{refl, arith, with_wait}
use Rattle.task_group.proofs.RowWrites.{at_row_set}
use Rattle.task_group.proofs.work_rows.set_waited.Goals as goal

pub returns-clause-set : goal.returns-clause-set
returns-clause-set g c =
    at_row_set with_wait c.args.groups.now.items c.args.g c.index_mut.result.now _
    c.index_mut.ensures.value (omega arith) refl
