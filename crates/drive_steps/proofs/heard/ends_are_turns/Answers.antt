use Rattle.drive_steps.proofs.Hearing.{ends_turn}
use Rattle.drive_steps.proofs.heard.ends_are_turns.Goals as goal

pub returns : goal.returns
returns c = ends_turn
