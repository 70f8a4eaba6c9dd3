use Rattle.row_view.specs.Image.{group_bytes, is_kept_group}
use Rattle.state_renewal.specs.Marks.{group_by}
use Rattle.state_renewal.proofs.Leaving.{LeftSoFar}
use Rattle.state_renewal.proofs.renewed_rows.put_groups.Given as goal

abbrev pub invariant-loop-g : goal.invariant-loop-g
invariant-loop-g g l =
    LeftSoFar group_bytes is_kept_group 103 l.flags (group_by l.scopes) l.groups.groups l.g l.at
    l.end l.initial.out l.out
