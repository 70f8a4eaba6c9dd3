use Rattle.std.proofs.lemmas.Result.{err_from_is_err_and}
use Rattle.run_console.proofs.Counting.{has_line, has_tally}
use Rattle.run_console.proofs.tally_replies.tally_lines.Goals as goal

pub returns-in_err-tallies-clause-some : goal.returns-in_err-tallies-clause-some
returns-in_err-tallies-clause-some g c =
    let p = err_from_is_err_and c.from_residual.result c.from_residual.ensures.1 in
    rw p.1 (has_line _ (has_tally _ c.in_err-tallies.ensures.some))
