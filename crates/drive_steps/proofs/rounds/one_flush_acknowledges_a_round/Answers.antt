use Rattle.drive_steps.proofs.Rounding.{rounds_are_acknowledged}
use Rattle.drive_steps.proofs.rounds.one_flush_acknowledges_a_round.Goals as goal

pub returns : goal.returns
returns c = rounds_are_acknowledged
