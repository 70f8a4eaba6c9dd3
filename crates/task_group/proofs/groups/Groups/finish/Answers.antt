use Rattle.run_model.proofs.Common.{◌∙◌, option_copied}
use Rattle.task_group.proofs.Outcomes.{ends_with}
use Rattle.task_group.proofs.groups.Groups.finish.Goals as goal

pub returns-clause-after : goal.returns-clause-after
returns-clause-after g c =
    c.end.ensures.after
    ∙ ends_with c.args.task (option_copied c.args.error) c.stage_with.result c.args.self.now
    c.stage_with.ensures
