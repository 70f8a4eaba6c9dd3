use Rattle.drive_runs.proofs.Setting.{AreFirst}
use Rattle.drive_runs.proofs.settings.sizes_of.Given as goal

abbrev pub invariant-loop-p : goal.invariant-loop-p
invariant-loop-p l = AreFirst l.old l.reported l.pools l.sizes.items l.p
