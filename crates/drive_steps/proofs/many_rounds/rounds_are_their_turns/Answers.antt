use Rattle.drive_steps.proofs.Following.{rounds_follow}
use Rattle.drive_steps.proofs.many_rounds.rounds_are_their_turns.Goals as goal

pub returns : goal.returns
returns c = rounds_follow
