use Rattle.run_console.proofs.Accounting.{line_accounts, run_accounts}
use Rattle.run_console.proofs.line_laws.a_fault_that_stops_a_run_has_its_cause.Goals as goal

pub returns-clause-run : goal.returns-clause-run
returns-clause-run g c = run_accounts g.D.RunDisk.state

pub returns-clause-line : goal.returns-clause-line
returns-clause-line g c = line_accounts g.D.RunDisk.state
