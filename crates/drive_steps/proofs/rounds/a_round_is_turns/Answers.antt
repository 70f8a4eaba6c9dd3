use Rattle.drive_steps.proofs.Rounding.{rounds_are_turns}
use Rattle.drive_steps.proofs.rounds.a_round_is_turns.Goals as goal

pub returns : goal.returns
returns c = rounds_are_turns
