use Rattle.std.specs.Prelude.{◌≡◌, ◌++◌, drop}
use Rattle.drive_steps.specs.Cancels.{stops_of}
use Rattle.drive_steps.proofs.cancels.push_stops.Given as goal

-- The steps so far, and then those of the other cancels.
abbrev pub invariant-loop-cancel : goal.invariant-loop-cancel
invariant-loop-cancel g l =
    l.initial.steps.items ++ stops_of l.state l.names l.groups
    ≡ l.steps.items ++ stops_of l.state l.names (drop l.cancel-index l.groups)
