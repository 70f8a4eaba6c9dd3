use Rattle.state_renewal.proofs.Works.{gone_ended}
use Rattle.state_renewal.specs.GoingOn.{going_on}
use Rattle.state_renewal.proofs.Goes.{hangs}
use Rattle.state_renewal.proofs.Over.{led_on, scopes_gone}
use Rattle.state_renewal.proofs.renewal_laws.what_does_not_go_on_is_finished.Goals as goal

pub returns-clause-scopes : goal.returns-clause-scopes
returns-clause-scopes c = scopes_gone

pub returns-clause-groups : goal.returns-clause-groups
returns-clause-groups c = λ p q events g row goes found gone.
    ((led_on p q events goes).both.go.work.groups.each g row found).gone gone

pub returns-clause-tasks : goal.returns-clause-tasks
returns-clause-tasks c = λ p q events n row goes found gone.
    let both = (led_on p q events goes).both in
    gone_ended (going_on p) q n row both.old (hangs (going_on p) q both.go).work found gone
