use Rattle.std.specs.Prelude.{◌≡◌}
use Rattle.night_drive.specs.Searches.{last_below}
use Rattle.drive_runs.specs.Tries.{is_named}
use Rattle.drive_runs.proofs.tries.task_named.Given as goal

-- The last one of the first tasks that has the name.
abbrev pub invariant-loop-n : goal.invariant-loop-n
invariant-loop-n g l = l.found ≡ last_below (is_named l.state l.named) l.n
