use Rattle.model_laws.proofs.Causing.{cancelled_scope, cause_scope}
use Rattle.model_laws.proofs.decisions.a_cause_is_given_to_a_cause_scope.Goals as goal

pub returns-clause-cause : goal.returns-clause-cause
returns-clause-cause c = cause_scope

pub returns-clause-cancelled : goal.returns-clause-cancelled
returns-clause-cancelled c = cancelled_scope
