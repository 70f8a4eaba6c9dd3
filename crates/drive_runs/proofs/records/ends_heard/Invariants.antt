use Rattle.std.specs.Prelude.{◌≡◌, map, take}
use Rattle.drive_runs.specs.Living.{as_recorded}
use Rattle.drive_runs.proofs.records.ends_heard.Given as goal

abbrev pub invariant-loop-end : goal.invariant-loop-end
invariant-loop-end l = l.ends.items ≡ map (as_recorded l.living) (take l.end-index l.heard)
