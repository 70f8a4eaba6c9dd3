use Rattle.night_drive.proofs.Withdrawing.{withdrawal_leaves}
use Rattle.night_drive.proofs.turns.a_withdrawal_leaves_all_commands.Goals as goal

pub returns : goal.returns
returns c = withdrawal_leaves
