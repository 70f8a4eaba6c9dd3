use Rattle.row_view.specs.declared.heads.ImageVersion.TheVariants.{Two}
use Rattle.row_view.specs.Image.{task_bytes, is_kept_task}
use Rattle.state_renewal.specs.Marks.{task_by}
use Rattle.state_renewal.proofs.Leaving.{LeftSoFar}
use Rattle.state_renewal.proofs.renewed_rows.put_tasks.Given as goal

abbrev pub invariant-loop-n : goal.invariant-loop-n
invariant-loop-n g l =
    LeftSoFar (task_bytes Two) (is_kept_task Two) 136 l.tasks (task_by l.stay l.tasks)
    l.groups.tasks l.n l.at l.end l.initial.out l.out
