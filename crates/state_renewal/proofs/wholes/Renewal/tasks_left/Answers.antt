use Rattle.std.proofs.Common.{◌∙◌}
use Rattle.state_renewal.proofs.Renewing.{tasks_count}
use Rattle.state_renewal.proofs.wholes.Renewal.tasks_left.Goals as goal

pub returns : goal.returns
returns g c = record {
  count =
      c.number.ensures.value
      ∙ tasks_count c.args.state.now c.args.self.now.scopes c.args.self.now.groups
      c.args.self.now.tasks c.requires.marks
      c.task_count.result c.task_count.ensures.len;
}
