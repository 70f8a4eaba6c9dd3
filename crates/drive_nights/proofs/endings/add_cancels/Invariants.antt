use Rattle.std.specs.Prelude.{◌≡◌, ◌++◌}
use Rattle.drive_nights.specs.Endings.{cancels_below}
use Rattle.drive_nights.proofs.endings.add_cancels.Given as goal

-- The steps for the first ones.
abbrev pub invariant-loop-s : goal.invariant-loop-s
invariant-loop-s g l = l.steps.items ≡ l.fn.steps.items ++ cancels_below l.state l.night l.s
