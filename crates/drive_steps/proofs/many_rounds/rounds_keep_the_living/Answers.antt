use Rattle.drive_steps.proofs.Following.{many_rounds_keep}
use Rattle.drive_steps.proofs.many_rounds.rounds_keep_the_living.Goals as goal

pub returns : goal.returns
returns c = many_rounds_keep
