use Rattle.run_console.proofs.Printing.{line_printed, row_answered}
use Rattle.run_console.proofs.line_laws.what_is_printed_is_what_was_answered.Goals as goal

pub returns-clause-row : goal.returns-clause-row
returns-clause-row g c = row_answered g.D.RunDisk.state

pub returns-clause-line : goal.returns-clause-line
returns-clause-line g c = line_printed
