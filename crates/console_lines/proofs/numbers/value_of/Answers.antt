use Rattle.std.proofs.Common.{arith, get_or, ◌∙◌, sym, ap, ◌*◌, ◌+◌, ◌-◌}
use Rattle.console_lines.proofs.NumberLemmas.{digit_at, digits_more, below_more, below_limit}
use Rattle.console_lines.proofs.numbers.value_of.Goals as goal

pub overflow_mul-value : goal.overflow_mul-value
overflow_mul-value c =
    let test = c.loop-digit-test.true in
    let few = c.requires.few in
    let below = below_limit c.loop-digit.value c.loop-digit.digit-index c.loop-digit.invariant.1
    (omega (arith, test, few)) in
    omega (arith, below)

pub overflow_sub-digit : goal.overflow_sub-digit
overflow_sub-digit c =
    (digit_at c.args.digits.now c.loop-digit.digit-index c.requires.digits c.loop-digit-test.true).0

pub overflow_add-value : goal.overflow_add-value
overflow_add-value c =
    let test = c.loop-digit-test.true in
    let few = c.requires.few in
    let i = c.loop-digit.digit-index in
    let at = digit_at c.args.digits.now i c.requires.digits test in
    let below = below_limit c.loop-digit.value i c.loop-digit.invariant.1
    (omega (arith, test, few)) in
    omega (arith, below, at.1, c.from.ensures)

pub loop-digit-preserved : goal.loop-digit-preserved
loop-digit-preserved c =
    let test = c.loop-digit-test.true in
    let i = c.loop-digit.digit-index in
    let v = c.loop-digit.value in
    let word = c.args.digits.now in
    let at = digit_at word i c.requires.digits test in (
      ap (λ d. v * 10 + d) c.from.ensures
          ∙ ap (λ n. n * 10 + (get_or word i 0 - 48)) c.loop-digit.invariant.0
          ∙ sym (digits_more word i c.requires.digits test),
      below_more v c.from.result i c.loop-digit.invariant.1 (omega (arith, at.1, c.from.ensures)),
    )

pub returns-clause-range : goal.returns-clause-range
returns-clause-range c =
    let few = c.requires.few in
    let end = c.loop-digit.auto.digit-index-end in
    below_limit c.loop-digit.value c.loop-digit.digit-index c.loop-digit.invariant.1
    (omega (arith, end, few))
