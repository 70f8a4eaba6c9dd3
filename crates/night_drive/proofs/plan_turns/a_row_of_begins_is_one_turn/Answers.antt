use Rattle.night_drive.proofs.Playing.{rows_are_one_turn}
use Rattle.night_drive.proofs.plan_turns.a_row_of_begins_is_one_turn.Goals as goal

pub returns : goal.returns
returns c = rows_are_one_turn
