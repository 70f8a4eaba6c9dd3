use Rattle.night_drive.proofs.Playing.{derives_are_no_turns}
use Rattle.night_drive.proofs.plan_turns.a_new_scope_is_no_turn.Goals as goal

pub returns : goal.returns
returns c = derives_are_no_turns
