use Rattle.std.proofs.Common.{◌≡◌, ◌∙◌, ap, arith, length, List, pos, w64, ◌*ℤ◌, ℕ}
use Rattle.std.proofs.lemmas.Int.{to_z_pos}
use Rattle.jiff_core.specs.declared.timestamp.Timestamp.{Timestamp}
use Rattle.console_lines.proofs.MomentTexts.{moment_long, printed_is}
use Rattle.console_lines.proofs.moments.dates.moment_text.Goals as goal

pub returns-clause-text : goal.returns-clause-text
returns-clause-text c =
    let whole : c.to_plain.result.nanosecond ≡ pos c.args.moment *ℤ pos 1_000_000_000 =
    ap (λ (t : Timestamp). t.nanosecond) c.to_plain.ensures ∙ c.in-Ok.ensures.value
    ∙ ap (λ z. z *ℤ pos 1_000_000_000)
    (to_z_pos w64 c.get.result (omega (arith, c.get.ensures.range))
    ∙ ap pos c.get.ensures.value) in
    printed_is c.new.result c.to_plain.result c.args.moment c.timestamp_text.result.bytes
    c.new.ensures whole c.timestamp_text.ensures

pub returns-clause-long : goal.returns-clause-long
returns-clause-long c =
    ap (λ (text : List ℕ). length text) (returns-clause-text c) ∙ moment_long c.args.moment
