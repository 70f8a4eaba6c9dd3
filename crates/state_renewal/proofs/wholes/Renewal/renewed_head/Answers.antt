use Rattle.std.proofs.Common.{◌∙◌}
use Rattle.state_renewal.proofs.Renewing.{head_is}
use Rattle.state_renewal.proofs.wholes.Renewal.renewed_head.Goals as goal

pub returns-clause-head : goal.returns-clause-head
returns-clause-head g c =
    head_is c.args.state.now c.get.result c.count.result c.scopes_left.result c.groups_left.result
    c.tasks_left.result (c.get.ensures.value ∙ c.clock.ensures) c.count.ensures.count
    c.scopes_left.ensures.count c.groups_left.ensures.count c.tasks_left.ensures.count
