use Rattle.std.proofs.Common.{sym, ◌∙◌}
use Rattle.std.proofs.lemmas.Result.{on_ok_weaker}
use Rattle.console_lines.proofs.Tallying.{one_counted}
use Rattle.console_lines.proofs.job_tallies.Tallies.add.Goals as goal

pub returns-clause-added : goal.returns-clause-added
returns-clause-added g c = λ tasks task admitted before few its_job its_phase.
    on_ok_weaker c.put.result
    (λ h. h
    ∙ one_counted tasks task admitted c.args.self.now c.copy.result c.args.phase.now
    c.counted.result c.with_task-counts.result before few (its_job ∙ sym c.copy.ensures) its_phase
    c.counted.ensures c.with_task-counts.ensures)
    c.put.ensures.put
