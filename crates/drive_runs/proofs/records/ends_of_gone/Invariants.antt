use Rattle.std.specs.Prelude.{◌≡◌, take}
use Rattle.std.specs.List.{filter_map}
use Rattle.drive_runs.specs.Records.{end_of_gone}
use Rattle.drive_runs.proofs.records.ends_of_gone.Given as goal

abbrev pub invariant-loop-task : goal.invariant-loop-task
invariant-loop-task l =
    l.ends.items ≡ filter_map (end_of_gone l.living) (take l.task-index l.gone)
