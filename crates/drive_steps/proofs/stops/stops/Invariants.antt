use Rattle.std.specs.Prelude.{◌≡◌, map, take}
use Rattle.night_plan.specs.Nights.{night}
use Rattle.drive_steps.specs.Stops.{stop_of, tries_of}
use Rattle.drive_steps.proofs.stops.stops.Given as goal

-- The stops of the first tries.
abbrev pub invariant-loop-begun : goal.invariant-loop-begun
invariant-loop-begun g l =
    l.stops.items ≡ map (stop_of l.state l.names (night l.plan l.facts) l.canceled)
    (tries_of l.commands.items (take l.begun-index l.living))
