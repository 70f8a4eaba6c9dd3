use Rattle.std.specs.Prelude.{◌≡◌, take}
use Rattle.drive_runs.specs.Sittings.{size_now}
use Rattle.drive_runs.proofs.settings.size_now.Given as goal

abbrev pub invariant-loop-new : goal.invariant-loop-new
invariant-loop-new l = l.size ≡ size_now (take l.new-index l.reported) l.pool l.known
