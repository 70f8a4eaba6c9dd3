use Rattle.drive_runs.specs.Grows.{HasGroups}
use Rattle.drive_runs.specs.Moving.{Moves}
use Rattle.drive_runs.proofs.nights.missing_groups.Given as goal

abbrev pub invariant-loop-g : goal.invariant-loop-g
invariant-loop-g g l =
    HasGroups g.D.RunDisk.state l.sitting l.g l.fn.book l.book
    × Moves g.D.RunDisk.state l.fn.book l.book
