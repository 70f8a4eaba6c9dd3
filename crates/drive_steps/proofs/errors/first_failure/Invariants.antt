use Rattle.std.specs.Prelude.{◌≡◌}
use Rattle.drive_steps.specs.Errors.{first_below, is_failure}
use Rattle.drive_steps.proofs.errors.first_failure.Given as goal

-- The first one of those so far.
abbrev pub invariant-loop-n : goal.invariant-loop-n
invariant-loop-n g l = l.first ≡ first_below (is_failure l.state l.night l.group) l.n
