use Rattle.console_lines.proofs.Cuts.{reply_kept, after_line_kept}
use Rattle.console_lines.proofs.script_laws.a_long_line_may_be_cut.Goals as goal

pub returns-clause-reply : goal.returns-clause-reply
returns-clause-reply c = reply_kept

pub returns-clause-session : goal.returns-clause-session
returns-clause-session c = after_line_kept
