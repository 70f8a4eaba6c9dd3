use Rattle.std.specs.Prelude.{unwrap_or}
use Rattle.std.proofs.Common.{ap, ◌∙◌}
use Rattle.console_lines.specs.Counted.{no_tasks}
use Rattle.console_lines.proofs.Tallying.{looked_up}
use Rattle.console_lines.proofs.job_tallies.Tallies.counted.Goals as goal

pub returns-in-Some : goal.returns-in-Some
returns-in-Some g c =
    rw (← c.self.view_is) (
    ap (λ o. unwrap_or o no_tasks)
    (c.in-Some.ensures.value ∙ looked_up c.self.inside.jobs.entries c.args.job.now.name))

pub returns-in-None : goal.returns-in-None
returns-in-None g c =
    rw (← c.self.view_is) (
    ap (λ o. unwrap_or o no_tasks)
    (c.in-None.ensures.value ∙ looked_up c.self.inside.jobs.entries c.args.job.now.name))
