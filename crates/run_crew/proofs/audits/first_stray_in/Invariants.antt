use Rattle.std.proofs.Common.{ℕ, ◌<◌}
use Rattle.run_crew.specs.Audits.{IsStrayIn}
use Rattle.run_crew.specs.Notes.{all_notes}
use Rattle.run_crew.proofs.audits.first_stray_in.Given as goal

abbrev pub invariant-loop-place : goal.invariant-loop-place
invariant-loop-place l =
    (i : ℕ) → i < l.place → IsStrayIn l.made (all_notes l.before) l.notes i → ⊥
