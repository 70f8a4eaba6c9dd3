use Rattle.state_renewal.proofs.Stays.{kept_scope, kept_group, kept_task}
use Rattle.state_renewal.proofs.renewals.what_is_kept_is_as_it_was.Goals as goal

pub returns-clause-scopes : goal.returns-clause-scopes
returns-clause-scopes c = kept_scope

pub returns-clause-groups : goal.returns-clause-groups
returns-clause-groups c = kept_group

pub returns-clause-tasks : goal.returns-clause-tasks
returns-clause-tasks c = kept_task
