use Rattle.drive_steps.proofs.Showing.{new_reported}
use Rattle.drive_steps.proofs.examples.two_commands_are_reported_in_a_new_store.Goals as goal

pub returns : goal.returns
returns c plan names four = new_reported plan names four
