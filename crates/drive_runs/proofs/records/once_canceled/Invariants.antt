use Rattle.std.specs.Prelude.{◌≡◌, take}
use Rattle.drive_runs.specs.Records.{once_canceled}
use Rattle.drive_runs.proofs.records.once_canceled.Given as goal

abbrev pub invariant-loop-one : goal.invariant-loop-one
invariant-loop-one l =
    l.all.items ≡ once_canceled l.cancels (take l.one-index l.living)
