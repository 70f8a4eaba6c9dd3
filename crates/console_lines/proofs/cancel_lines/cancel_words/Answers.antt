use Rattle.std.specs.Prelude.{None, Some, codes}
use Rattle.std.proofs.Common.{sym}
use Rattle.std.proofs.lemmas.Bool.Decides.{Decides-eqb}
use Rattle.std.proofs.lemmas.Slice.Eq.{strip_prefix_is}
use Rattle.console_lines.proofs.CancelLines.{next_asks, next_words, no_cancel}
use Rattle.console_lines.proofs.cancel_lines.cancel_words.Goals as goal

pub returns-clause-words : goal.returns-clause-words
returns-clause-words c =
    next_words c.args.line.now c.in_ok-left.left.now c.next_word.result
    c.if-line-gt-LONGEST_LINE.false
    (strip_prefix_is Decides-eqb c.args.line.now (codes "cancel ") (Some c.in_ok-left.left)
    c.in_ok-left.ensures.cases) c.next_word.ensures

pub returns-clause-asks : goal.returns-clause-asks
returns-clause-asks c =
    next_asks c.args.line.now c.in_ok-left.left.now c.next_word.result
    c.if-line-gt-LONGEST_LINE.false
    (strip_prefix_is Decides-eqb c.args.line.now (codes "cancel ") (Some c.in_ok-left.left)
    c.in_ok-left.ensures.cases) c.next_word.ensures

pub returns-in_err-left-clause-words : goal.returns-in_err-left-clause-words
returns-in_err-left-clause-words c =
    rw c.from_residual.ensures (sym (no_cancel c.args.line.now
    (strip_prefix_is Decides-eqb c.args.line.now (codes "cancel ") None
    c.in_err-left.ensures.cases)))
