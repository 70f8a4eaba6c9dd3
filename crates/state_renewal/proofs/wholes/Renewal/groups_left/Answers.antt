use Rattle.std.proofs.Common.{◌∙◌}
use Rattle.state_renewal.proofs.Renewing.{groups_count}
use Rattle.state_renewal.proofs.wholes.Renewal.groups_left.Goals as goal

pub returns : goal.returns
returns g c = record {
  count =
      c.number.ensures.value
      ∙ groups_count c.args.state.now c.args.self.now.scopes c.args.self.now.groups
      c.args.self.now.tasks c.requires.marks
      c.group_count.result c.group_count.ensures.len;
}
