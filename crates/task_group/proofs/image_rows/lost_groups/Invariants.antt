use Rattle.task_group.proofs.LostGroups.{AreLost}
use Rattle.task_group.proofs.image_rows.lost_groups.Given as goal

abbrev pub invariant-loop-task : goal.invariant-loop-task
invariant-loop-task l = AreLost l.tasks l.task-index l.lost
