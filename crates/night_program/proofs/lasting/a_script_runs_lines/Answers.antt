use Rattle.night_program.proofs.LineLemmas.{stored_over, timed_over}
use Rattle.night_program.proofs.lasting.a_script_runs_lines.Goals as goal

pub returns-clause-script : goal.returns-clause-script
returns-clause-script g c = stored_over g.D.RunDisk.state

pub returns-clause-timed : goal.returns-clause-timed
returns-clause-timed g c = timed_over g.D.RunDisk.state
