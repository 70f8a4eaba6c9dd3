use Rattle.std.proofs.Common.{sym}
use Rattle.console_lines.proofs.WordLemmas.{asks_alone_more}
use Rattle.console_lines.proofs.task_lines.read_alone.Goals as goal

pub returns-in-Some : goal.returns-in-Some
returns-in-Some c = rw c.in-Some.is (sym (asks_alone_more c.args.asked c.in-Some.field-0.now))
