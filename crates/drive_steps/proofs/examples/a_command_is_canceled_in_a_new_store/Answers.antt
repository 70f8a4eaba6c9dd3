use Rattle.drive_steps.proofs.Showing.{new_canceled}
use Rattle.drive_steps.proofs.examples.a_command_is_canceled_in_a_new_store.Goals as goal

pub returns : goal.returns
returns c plan names four = new_canceled plan names four
