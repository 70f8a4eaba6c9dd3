use Rattle.std.proofs.Common.{sym}
use Rattle.console_lines.proofs.WordLemmas.{only_word_more}
use Rattle.console_lines.proofs.words.last_word.Goals as goal

pub returns-in-Some : goal.returns-in-Some
returns-in-Some c =
    rw (c.in_ok-word.ensures, c.in-Some.is)
    (sym (only_word_more c.in_ok-word.word.now c.in-Some.field-0.now))
