use Rattle.std.specs.Prelude.{◌≡◌, take}
use Rattle.std.specs.List.{filter_map}
use Rattle.drive_runs.specs.Living.{unasked}
use Rattle.drive_runs.proofs.stops.unasked_of.Given as goal

abbrev pub invariant-loop-one : goal.invariant-loop-one
invariant-loop-one l = l.tries.items ≡ filter_map unasked (take l.one-index l.living)
