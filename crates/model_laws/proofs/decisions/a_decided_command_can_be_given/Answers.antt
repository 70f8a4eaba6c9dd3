use Rattle.model_laws.proofs.Giving.{decided_given}
use Rattle.model_laws.proofs.decisions.a_decided_command_can_be_given.Goals as goal

pub returns : goal.returns
returns c = decided_given
