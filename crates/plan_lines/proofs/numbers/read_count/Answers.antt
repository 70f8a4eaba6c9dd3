use Rattle.std.proofs.Common.{◌≡◌, ◌∙◌, ap, sym}
use Rattle.std.specs.Fmt.{decimal}
use Rattle.plan_lines.proofs.Digits.{misread, unread}
use Rattle.plan_lines.proofs.numbers.read_count.Goals as goal

pub returns-in_default : goal.returns-in_default
returns-in_default c = λ n small is.
    unread n c.args.word.now small is (sym c.in_default.is ∙ c.read_number.ensures.value)

pub returns-else-is_decimal : goal.returns-else-is_decimal
returns-else-is_decimal c = λ n small is.
    let same = misread n c.in-Some.number c.args.word.now small is
    (sym c.in-Some.is ∙ c.read_number.ensures.value) in
    let written : decimal c.in-Some.number ≡ c.args.word.now = sym (ap decimal same) ∙ is in
    let there = c.is_decimal.ensures.1 written in
    cc
