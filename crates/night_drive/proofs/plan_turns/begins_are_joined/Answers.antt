use Rattle.night_drive.proofs.Playing.{begins_join}
use Rattle.night_drive.proofs.plan_turns.begins_are_joined.Goals as goal

pub returns : goal.returns
returns c = begins_join
