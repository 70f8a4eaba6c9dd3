use Rattle.night_drive.proofs.Playing.{finishes_are_turns}
use Rattle.night_drive.proofs.plan_turns.a_finish_is_a_turn.Goals as goal

pub returns : goal.returns
returns c = finishes_are_turns
