use Rattle.std.proofs.Common.{ap}
use Rattle.drive_lines.specs.Spaces.{lent}
use Rattle.drive_lines.proofs.FieldTexts.{ended_unread}
use Rattle.drive_lines.proofs.fields.read_ended.Goals as goal

pub returns-in_err-read_outcome : goal.returns-in_err-read_outcome
returns-in_err-read_outcome c =
    rw c.from_residual-in_err-read_outcome.ensures (ended_unread (lent c.args.left)
    c.in_ok-left.field-0.now c.in_ok-number.rest.now c.in_ok-number.number
    (ap lent c.in_ok-left.was) c.in_ok-number.ensures c.in_err-read_outcome.ensures)
