use Rattle.row_view.specs.Image.{scope_bytes, is_kept_scope}
use Rattle.state_renewal.specs.Marks.{scope_by}
use Rattle.state_renewal.proofs.Leaving.{LeftSoFar}
use Rattle.state_renewal.proofs.renewed_rows.put_scopes.Given as goal

abbrev pub invariant-loop-n : goal.invariant-loop-n
invariant-loop-n g l =
    LeftSoFar scope_bytes is_kept_scope 192 l.flags (scope_by l.scopes) l.rows l.n l.at l.end
    l.initial.out l.out
