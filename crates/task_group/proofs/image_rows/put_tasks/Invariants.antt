use Rattle.row_view.specs.declared.heads.ImageVersion.TheVariants.{Two}
use Rattle.row_view.specs.Image.{task_bytes, is_kept_task}
use Rattle.task_group.proofs.PutLoops.{PutSoFar}
use Rattle.task_group.proofs.image_rows.put_tasks.Given as goal

abbrev pub invariant-loop-row : goal.invariant-loop-row
invariant-loop-row l =
    PutSoFar (task_bytes Two) (is_kept_task Two) 136 l.rows l.row-index l.at l.end l.initial.out
    l.out
