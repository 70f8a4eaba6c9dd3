use Rattle.std.proofs.Common.{◌∙◌, ap, sym}
use Rattle.drive_lines.specs.Spaces.{lent}
use Rattle.drive_lines.proofs.FieldTexts.{try_found, try_no_digits, try_no_group, try_no_key}
use Rattle.drive_lines.proofs.FieldTexts.{try_no_number, try_no_rest}
use Rattle.drive_lines.proofs.fields.read_try.Goals as goal

pub returns-in_err-rest : goal.returns-in_err-rest
returns-in_err-rest c =
    rw c.from_residual.ensures (try_no_rest c.args.bytes.now
    (sym (ap lent c.in_err-rest.was) ∙ c.first_word.ensures.rest))

pub returns-in_err-read : goal.returns-in_err-read
returns-in_err-read c =
    rw c.from_residual-in_err-read.ensures (try_no_group c.args.bytes.now
    c.first_word.result.0.now c.first_word.ensures.word c.in_err-read.ensures)

pub returns-in_err-read-2 : goal.returns-in_err-read-2
returns-in_err-read-2 c =
    rw c.from_residual-in_err-read-2.ensures (try_no_key c.args.bytes.now
    c.in_ok-rest.field-0.now c.first_word-2.result.0.now
    (sym (ap lent c.in_ok-rest.was) ∙ c.first_word.ensures.rest) c.first_word-2.ensures.word
    c.in_err-read-2.ensures)

pub returns-in_err-number : goal.returns-in_err-number
returns-in_err-number c =
    rw c.from_residual-in_err-number.ensures (try_no_number c.args.bytes.now
    c.in_ok-rest.field-0.now (sym (ap lent c.in_ok-rest.was) ∙ c.first_word.ensures.rest)
    (sym (ap lent c.in_err-number.was) ∙ c.first_word-2.ensures.rest))

pub returns-in_err-read_short : goal.returns-in_err-read_short
returns-in_err-read_short c =
    rw c.from_residual-in_err-read_short.ensures (try_no_digits c.args.bytes.now
    c.in_ok-rest.field-0.now c.in_ok-number.field-0.now
    (sym (ap lent c.in_ok-rest.was) ∙ c.first_word.ensures.rest)
    (sym (ap lent c.in_ok-number.was) ∙ c.first_word-2.ensures.rest)
    c.in_err-read_short.ensures)

pub returns : goal.returns
returns c =
    try_found c.args.bytes.now c.in_ok-rest.field-0.now c.in_ok-number.field-0.now
    c.first_word.result.0.now c.first_word-2.result.0.now c.in_ok-read.field-0
    c.in_ok-read-2.field-0 c.in_ok-read_short.field-0 c.first_word.ensures.word
    (sym (ap lent c.in_ok-rest.was) ∙ c.first_word.ensures.rest) c.first_word-2.ensures.word
    (sym (ap lent c.in_ok-number.was) ∙ c.first_word-2.ensures.rest) c.in_ok-read.ensures
    c.in_ok-read-2.ensures c.in_ok-read_short.ensures
