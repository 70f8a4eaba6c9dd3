use Rattle.drive_steps.proofs.Showing.{new_between}
use Rattle.drive_steps.proofs.examples.what_has_ended_lives_no_longer.Goals as goal

pub returns-clause-new : goal.returns-clause-new
returns-clause-new c plan names four = new_between plan names four
