use Rattle.std.proofs.Common.{◌∙◌, ap, arith, sym}
use Rattle.drive_lines.specs.Phrases.{takes_name}
use Rattle.drive_lines.specs.Spaces.{lent}
use Rattle.drive_lines.proofs.PhraseTexts.{spelled_own}
use Rattle.drive_lines.proofs.phrases.read_phrase.Goals as goal

pub returns-in-Some : goal.returns-in-Some
returns-in-Some c =
    spelled_own c.args.line.now (lent c.first_word.result.1) c.in-Some.word c.read_own.result
    (omega arith)
    (sym (ap takes_name c.first_word.ensures.word) ∙ sym c.takes_name.ensures
    ∙ c.if-takes_name.false)
    (c.in-Some.ensures ∙ c.first_word.ensures.word) c.first_word.ensures.rest c.read_own.ensures
