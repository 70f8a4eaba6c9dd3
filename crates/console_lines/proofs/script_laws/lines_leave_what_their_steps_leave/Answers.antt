use Rattle.console_lines.proofs.LawLemmas.{lines_are_steps}
use Rattle.console_lines.proofs.script_laws.lines_leave_what_their_steps_leave.Goals as goal

pub returns : goal.returns
returns c = lines_are_steps
