use Rattle.std.specs.Prelude.{Some}
use Rattle.std.proofs.Common.{ap, ◌∙◌}
use Rattle.console_lines.proofs.WishLemmas.{value_read}
use Rattle.console_lines.proofs.wishes.read_value.Goals as goal

pub returns : goal.returns
returns c =
    rw (c.in_ok-key.ensures, c.in_ok-text.was)
    (ap Some c.value.ensures ∙ value_read c.in_ok-key.key.now c.in_ok-text.text.now)
