use Rattle.drive_steps.proofs.Following.{rounds_lead}
use Rattle.drive_steps.proofs.many_rounds.rounds_are_turns_that_may_come.Goals as goal

pub returns : goal.returns
returns c = rounds_lead
