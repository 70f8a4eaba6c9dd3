use Rattle.drive_steps.proofs.Surviving.{their_ends_are_ends}
use Rattle.drive_steps.proofs.living.the_living_can_end.Goals as goal

pub returns : goal.returns
returns c = their_ends_are_ends
