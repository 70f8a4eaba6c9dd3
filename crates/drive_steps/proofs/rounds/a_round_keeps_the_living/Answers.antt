use Rattle.drive_steps.proofs.Rounding.{rounds_keep}
use Rattle.drive_steps.proofs.rounds.a_round_keeps_the_living.Goals as goal

pub returns : goal.returns
returns c = rounds_keep
