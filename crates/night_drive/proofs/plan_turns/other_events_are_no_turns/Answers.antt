use Rattle.night_drive.proofs.Playing.{others_are_no_turns}
use Rattle.night_drive.proofs.plan_turns.other_events_are_no_turns.Goals as goal

pub returns : goal.returns
returns c = others_are_no_turns
