use Rattle.night_drive.proofs.Playing.{withdrawals_are_no_turns}
use Rattle.night_drive.proofs.plan_turns.a_withdrawal_is_no_turn.Goals as goal

pub returns : goal.returns
returns c = withdrawals_are_no_turns
