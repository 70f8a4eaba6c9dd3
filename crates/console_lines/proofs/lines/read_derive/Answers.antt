use Rattle.std.specs.Prelude.{Some}
use Rattle.std.proofs.Common.{◌∙◌, ap}
use Rattle.console_lines.specs.LineRequests.{wish_of}
use Rattle.console_lines.specs.Words.{words_in, lent}
use Rattle.console_lines.proofs.WishLemmas.{derive_wished}
use Rattle.console_lines.proofs.lines.read_derive.Goals as goal

pub returns : goal.returns
returns c =
    let kind = c.in_ok-kind in
    let wish = wish_of kind.kind.now (words_in (lent kind.left)) in
    rw (c.in_ok-name.ensures, c.in_ok-parent.ensures, kind.ensures)
    (ap Some c.derive.ensures
    ∙ derive_wished c.in_ok-name.name.now c.in_ok-parent.parent.now wish
    c.in_ok-read_wish.field-0 c.in_ok-read_wish.ensures)
