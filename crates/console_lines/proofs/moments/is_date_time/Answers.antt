use Rattle.std.proofs.Common.{sym}
use Rattle.console_lines.proofs.MomentAscii.{short_word}
use Rattle.console_lines.proofs.moments.is_date_time.Goals as goal

pub returns-then-word-lt-LOCAL_LEN-clause-value : goal.returns-then-word-lt-LOCAL_LEN-clause-value
returns-then-word-lt-LOCAL_LEN-clause-value c = sym (short_word _ c.if-word-lt-LOCAL_LEN.true)
