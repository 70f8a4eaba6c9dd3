use Rattle.std.specs.Prelude.{◌≡◌, take}
use Rattle.drive_runs.specs.Living.{all_asked}
use Rattle.drive_runs.proofs.stops.all_asked.Given as goal

abbrev pub invariant-loop-one : goal.invariant-loop-one
invariant-loop-one l = l.all.items ≡ all_asked l.stops (take l.one-index l.living)
