use Rattle.std.proofs.Common.{ap}
use Rattle.drive_lines.specs.Spaces.{lent}
use Rattle.drive_lines.proofs.FieldTexts.{number_text_unread}
use Rattle.drive_lines.proofs.fields.read_number_text.Goals as goal

pub returns-in_err-read : goal.returns-in_err-read
returns-in_err-read c =
    rw c.from_residual-in_err-read.ensures (number_text_unread (lent c.args.left)
    c.in_ok-left.field-0.now c.in_ok-number.rest.now c.in_ok-number.number
    (ap lent c.in_ok-left.was) c.in_ok-number.ensures c.in_err-read.ensures)
