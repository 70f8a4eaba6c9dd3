use Rattle.std.specs.Prelude.{Some}
use Rattle.std.proofs.Common.{ap, ◌∙◌}
use Rattle.console_lines.specs.Words.{lent}
use Rattle.console_lines.proofs.WishLemmas.{timeout_read}
use Rattle.console_lines.proofs.wishes.read_timeout.Goals as goal

pub returns : goal.returns
returns c =
    let value = c.in_ok-seconds.ensures.value in
    rw c.in_ok-number.ensures
    (ap Some c.timeout.ensures
    ∙ timeout_read _ (lent c.in_ok-number.cause) c.in_ok-seconds.seconds value)
