use Rattle.std.proofs.Common.{◌++◌}
use Rattle.std.proofs.lemmas.Result.{err_from_is_err_and}
use Rattle.run_console.proofs.LineSteps.{same_asked, same_end}
use Rattle.run_console.proofs.Quiet.{kept_longer}
use Rattle.run_console.proofs.line_inputs.end_line.Goals as goal

pub returns-in_err-why-clause-cut : goal.returns-in_err-why-clause-cut
returns-in_err-why-clause-cut g c = λ begun e.
    let end = c.args.end.now in
    let tail = c.keep.new.tail.items in
    let p = err_from_is_err_and c.from_residual.result c.from_residual.ensures.1 in
    rw (p.1, p.2) (
    c.in_err-why.ensures.cut (begun ++ end)
    (same_asked (begun ++ end) tail c.as_slice.result.now c.as_slice.ensures.value
    (kept_longer begun end c.args.tail.now.items tail e c.keep.ensures)))

pub returns-clause-ran : goal.returns-clause-ran
returns-clause-ran g c = λ begun e.
    let end = c.args.end.now in
    let tail = c.keep.new.tail.items in
    let last = c.as_slice.result.now in
    let is_kept = kept_longer begun end c.args.tail.now.items tail e c.keep.ensures in
    let asks = same_asked (begun ++ end) tail last c.as_slice.ensures.value is_kept in (
      c.in_ok-why.ensures.ran (begun ++ end) asks,
      c.in_ok-why.ensures.rejected (begun ++ end) asks
          (same_end (begun ++ end) tail last c.as_slice.ensures.value is_kept),
    )
