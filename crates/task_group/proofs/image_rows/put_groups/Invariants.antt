use Rattle.row_view.specs.Image.{group_bytes, is_kept_group}
use Rattle.task_group.proofs.PutLoops.{PutSoFar}
use Rattle.task_group.proofs.image_rows.put_groups.Given as goal

abbrev pub invariant-loop-row : goal.invariant-loop-row
invariant-loop-row l =
    PutSoFar group_bytes is_kept_group 103 l.rows l.row-index l.at l.end l.initial.out l.out
