use Rattle.std.proofs.Common.{◌∙◌, ap, sym}
use Rattle.drive_lines.specs.Spaces.{lent}
use Rattle.drive_lines.proofs.FieldTexts.{number_alone, number_found, number_unread}
use Rattle.drive_lines.proofs.fields.number_then.Goals as goal

pub returns-in_err-number : goal.returns-in_err-number
returns-in_err-number c =
    rw c.from_residual.ensures (number_unread c.args.bytes.now c.first_word.result.0.now
    c.first_word.ensures.word c.in_err-number.ensures)

pub returns-in_err-rest : goal.returns-in_err-rest
returns-in_err-rest c =
    rw c.from_residual-in_err-rest.ensures (number_alone c.args.bytes.now
    (sym (ap lent c.in_err-rest.was) ∙ c.first_word.ensures.rest))

pub returns : goal.returns
returns c = (
  c.in_ok-number.ensures.0,
  number_found c.args.bytes.now c.first_word.result.0.now c.in_ok-rest.field-0.now
      c.in_ok-number.number c.first_word.ensures.word
      (sym (ap lent c.in_ok-rest.was) ∙ c.first_word.ensures.rest) c.in_ok-number.ensures.1,
)
