use Rattle.state_views.proofs.Drawing.{task_parent}
use Rattle.state_views.proofs.row_kinds.RowKind.parent.Goals as goal

pub returns-in_ok-task-in-Tasks : goal.returns-in_ok-task-in-Tasks
returns-in_ok-task-in-Tasks g c = rw c.in-Tasks.is (
    task_parent c.args.state.now c.args.number c.count.result c.in_ok-task-in-Tasks.field-0
    c.count.ensures c.in_ok-task-in-Tasks.ensures)
