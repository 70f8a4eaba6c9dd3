use Rattle.std.specs.Prelude.{◌≡◌, take}
use Rattle.drive_runs.specs.Living.{without}
use Rattle.drive_runs.proofs.living.without.Given as goal

abbrev pub invariant-loop-one : goal.invariant-loop-one
invariant-loop-one l = l.left.items ≡ without (take l.one-index l.living) l.tasks
