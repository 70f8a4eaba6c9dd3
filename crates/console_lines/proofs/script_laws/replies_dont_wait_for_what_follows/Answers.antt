use Rattle.console_lines.proofs.LawLemmas.{replies_stay}
use Rattle.console_lines.proofs.script_laws.replies_dont_wait_for_what_follows.Goals as goal

pub returns : goal.returns
returns c = replies_stay
