use Rattle.console_lines.proofs.LawLemmas.{value_text, deadline_cause, timeout_cause}
use Rattle.console_lines.proofs.script_laws.a_text_has_all_bytes_after_the_word_before.Goals as goal

pub returns-clause-value : goal.returns-clause-value
returns-clause-value c = value_text

pub returns-clause-deadline : goal.returns-clause-deadline
returns-clause-deadline c = deadline_cause

pub returns-clause-timeout : goal.returns-clause-timeout
returns-clause-timeout c = timeout_cause
