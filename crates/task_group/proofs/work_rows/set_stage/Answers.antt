use Rattle.run_model.proofs.Common.{refl, arith, with_stage}
use Rattle.task_group.proofs.RowWrites.{at_row_set}
use Rattle.task_group.proofs.work_rows.set_stage.Goals as goal

pub returns-clause-set : goal.returns-clause-set
returns-clause-set g c =
    at_row_set (with_stage c.args.stage) c.args.tasks.now.items c.args.n c.index_mut.result.now _
    c.index_mut.ensures.value (omega arith) refl
