use Rattle.model_laws.proofs.Allowing.{decided_allowed}
use Rattle.model_laws.proofs.decisions.what_is_decided_is_allowed.Goals as goal

pub returns-clause-commands : goal.returns-clause-commands
returns-clause-commands c = decided_allowed
