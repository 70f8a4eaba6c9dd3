use Rattle.std.specs.Prelude.{◌≡◌, take}
use Rattle.drive_runs.specs.Rebounds.{with_tasks}
use Rattle.drive_runs.proofs.rebounds.with_tasks.Given as goal

abbrev pub invariant-loop-i : goal.invariant-loop-i
invariant-loop-i l = l.all.items ≡ with_tasks (take l.i l.living) l.begun
