use Rattle.std.specs.Prelude.{◌≡◌, ◌++◌}
use Rattle.drive_nights.specs.Endings.{waits_below}
use Rattle.drive_nights.proofs.endings.add_waits.Given as goal

-- The steps for the first ones.
abbrev pub invariant-loop-g : goal.invariant-loop-g
invariant-loop-g g l = l.steps.items ≡ l.fn.steps.items ++ waits_below l.state l.night l.g
