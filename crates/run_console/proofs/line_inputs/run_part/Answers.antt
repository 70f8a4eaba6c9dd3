use Rattle.std.proofs.Common.{◌+◌, ◌-◌, [], ◌∷◌, ◌++◌, take, drop, length}
use Rattle.std.proofs.Common.{arith, refl, sym, ap, ◌∙◌}
use Rattle.std.proofs.lemmas.List.{length-drop, length-take-le}
use Rattle.std.proofs.lemmas.Result.{err_from_is_err_and}
use Rattle.console_lines.specs.Lines.{open_line}
use Rattle.run_console.specs.Until.{ends_at}
use Rattle.run_console.proofs.Parts.{part_begins}
use Rattle.run_console.proofs.Quiet.{line_cut, line_ran, line_stands, line_rejected, part_quiet}
use Rattle.run_console.proofs.Quiet.{quiet_all, quiet_take}
use Rattle.run_console.proofs.line_inputs.run_part.Goals as goal

pub loop-end-init : goal.loop-end-init
loop-end-init g c = (
  [],
  refl,
  λ begun e. part_begins refl e,
  omega arith,
  c.requires.sound,
)

-- ---- a line that an LF ends

pub returns-in_err-why-clause-cut : goal.returns-in_err-why-clause-cut
returns-in_err-why-clause-cut g c = λ begun e.
    let rest = c.loop-end.rest.now in
    let n = c.in-Some.end in
    let prefix = c.loop-end.invariant.0 in
    let first = c.in-Some.ensures in
    let so_far = c.loop-end.invariant.2 begun e in
    let p = err_from_is_err_and c.from_residual.result c.from_residual.ensures.1 in
    rw (p.1, p.2) (
    line_cut (take n rest) (take (length rest - (n + 1)) (drop (n + 1) rest))
    (line_stands c.args.part.now prefix rest n c.loop-end.invariant.1 first.0.high first.1) so_far
    (quiet_take rest n first.0.before)
    (c.in_err-why.ensures.cut (open_line begun prefix) so_far.tail_is))

-- The run ends after it.
pub returns-in-Some-ends_at-clause-ran : goal.returns-in-Some-ends_at-clause-ran
returns-in-Some-ends_at-clause-ran g c = λ begun e.
    let rest = c.loop-end.rest.now in
    let n = c.in-Some.end in
    let prefix = c.loop-end.invariant.0 in
    let first = c.in-Some.ensures in
    let so_far = c.loop-end.invariant.2 begun e in
    let line = c.in_ok-why.ensures.ran (open_line begun prefix) so_far.tail_is in
    line_rejected (take n rest) (take (length rest - (n + 1)) (drop (n + 1) rest))
    c.in-Some-ends_at.why
    (line_stands c.args.part.now prefix rest n c.loop-end.invariant.1 first.0.high first.1) so_far
    (quiet_take rest n first.0.before) line.0
    (ap (ends_at c.args.until) (sym line.1) ∙ sym c.ends_at.ensures ∙ c.in-Some-ends_at.is)

-- It goes on.
pub loop-end-preserved : goal.loop-end-preserved
loop-end-preserved g c =
    let rest = c.loop-end.rest.now in
    let n = c.in-Some.end in
    let xs = take n rest in
    let prefix = c.loop-end.invariant.0 in
    let first = c.in-Some.ensures in
    let behind = drop (n + 1) rest in
    let long = length-drop (n + 1) rest in
    let left = length-take-le (length rest - (n + 1)) behind (omega (arith, long)) in (
      (prefix ++ xs) ++ 10 ∷ [],
      line_stands c.args.part.now prefix rest n c.loop-end.invariant.1 first.0.high first.1,
      λ begun e.
          let so_far = c.loop-end.invariant.2 begun e in
          let line = c.in_ok-why.ensures.ran (open_line begun prefix) so_far.tail_is in
          line_ran xs so_far (quiet_take rest n first.0.before) line.0
          (ap (ends_at c.args.until) (sym line.1) ∙ sym c.ends_at.ensures ∙ c.in_default-ends_at.is)
          c.in_ok-why.ensures.none,
      omega (arith, c.loop-end.invariant.3, left, first.0.high),
      c.in_ok-why.ensures.sound,
    )

-- ---- the line that is begun

pub returns-clause-ran : goal.returns-clause-ran
returns-clause-ran g c = λ begun e.
    rw c.loop-end.invariant.1
    (part_quiet c.loop-end.rest.now (c.loop-end.invariant.2 begun e)
    (quiet_all c.loop-end.rest.now c.in_default.ensures) c.keep.ensures)
