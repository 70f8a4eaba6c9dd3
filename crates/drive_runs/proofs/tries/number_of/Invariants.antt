use Rattle.std.specs.Prelude.{◌≡◌, ◌≤◌}
use Rattle.night_drive.specs.Searches.{count_below}
use Rattle.drive_runs.specs.Tries.{is_of}
use Rattle.drive_runs.proofs.tries.number_of.Given as goal

-- This many of the first tasks have the key and are in the group.
abbrev pub invariant-loop-m : goal.invariant-loop-m
invariant-loop-m g l =
    (l.count ≡ count_below (is_of l.state l.g l.key) l.m) × (l.count ≤ l.m)
