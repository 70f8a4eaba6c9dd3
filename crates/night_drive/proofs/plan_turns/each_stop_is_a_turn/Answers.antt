use Rattle.night_drive.proofs.Playing.{advances_are_turns, cancels_are_turns}
use Rattle.night_drive.proofs.plan_turns.each_stop_is_a_turn.Goals as goal

pub returns-clause-cancels : goal.returns-clause-cancels
returns-clause-cancels c = cancels_are_turns

pub returns-clause-advances : goal.returns-clause-advances
returns-clause-advances c = advances_are_turns
