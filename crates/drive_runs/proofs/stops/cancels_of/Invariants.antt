use Rattle.std.specs.Prelude.{◌≡◌, take}
use Rattle.drive_runs.specs.Living.{cancels_of}
use Rattle.drive_runs.proofs.stops.cancels_of.Given as goal

abbrev pub invariant-loop-one : goal.invariant-loop-one
invariant-loop-one l = l.cancels.items ≡ cancels_of (take l.one-index l.living)
