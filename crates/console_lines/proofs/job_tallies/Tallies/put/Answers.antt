use Rattle.std.proofs.Common.{sym, ◌∙◌}
use Rattle.std.proofs.lemmas.Result.{err_from_is_err_and}
use Rattle.console_lines.proofs.Tallying.{looked_up}
use Rattle.console_lines.proofs.job_tallies.Tallies.put.Goals as goal

pub returns-in_err-insert-clause-absent : goal.returns-in_err-insert-clause-absent
returns-in_err-insert-clause-absent g c =
    let p = err_from_is_err_and c.from_residual.result c.from_residual.ensures.1 in
    rw (p.1, ← c.self.view_is) (
    sym (looked_up c.self.inside.jobs.entries c.args.job.name) ∙ c.in_err-insert.ensures.absent)
