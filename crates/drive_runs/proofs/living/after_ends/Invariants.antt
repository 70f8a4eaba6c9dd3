use Rattle.std.specs.Prelude.{◌≡◌, take}
use Rattle.drive_runs.specs.Living.{after_ends}
use Rattle.drive_runs.proofs.living.after_ends.Given as goal

abbrev pub invariant-loop-one : goal.invariant-loop-one
invariant-loop-one l = l.left.items ≡ after_ends (take l.one-index l.living) l.ended
