use Rattle.drive_steps.proofs.Showing.{two_begin}
use Rattle.drive_steps.proofs.examples.two_commands_begin_in_a_row.Goals as goal

pub returns-clause-row : goal.returns-clause-row
returns-clause-row c plan names four = two_begin plan names four
