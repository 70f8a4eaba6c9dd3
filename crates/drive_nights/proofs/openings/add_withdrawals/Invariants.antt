use Rattle.std.specs.Prelude.{◌≡◌, ◌++◌}
use Rattle.drive_nights.specs.Openings.{withdrawals_below}
use Rattle.drive_nights.proofs.openings.add_withdrawals.Given as goal

-- The steps for the first tasks.
abbrev pub invariant-loop-n : goal.invariant-loop-n
invariant-loop-n g l = l.steps.items ≡ l.fn.steps.items ++ withdrawals_below l.state l.n
