use Rattle.std.specs.Prelude.{Some}
use Rattle.std.proofs.Common.{ap, ◌∙◌}
use Rattle.console_lines.specs.Words.{lent}
use Rattle.console_lines.proofs.WishLemmas.{deadline_read}
use Rattle.console_lines.proofs.wishes.read_deadline.Goals as goal

pub returns : goal.returns
returns c =
    rw c.in_ok-moment.ensures
    (ap Some c.deadline.ensures
    ∙ deadline_read _ (lent c.in_ok-moment.cause) c.in_ok-moment-2.moment c.in_ok-moment-2.ensures)
