use Rattle.night_drive.proofs.Distinguishing.{a_row_begins_two}
use Rattle.night_drive.proofs.examples.a_row_begins_two_commands.Goals as goal

pub returns-clause-begins : goal.returns-clause-begins
returns-clause-begins c plan names four = a_row_begins_two plan names four
