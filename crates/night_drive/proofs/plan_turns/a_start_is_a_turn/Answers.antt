use Rattle.night_drive.proofs.Playing.{starts_are_turns}
use Rattle.night_drive.proofs.plan_turns.a_start_is_a_turn.Goals as goal

pub returns : goal.returns
returns c = starts_are_turns
