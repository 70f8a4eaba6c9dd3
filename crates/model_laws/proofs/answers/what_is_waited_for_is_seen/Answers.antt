use Rattle.model_laws.proofs.Waiting.{waited_seen}
use Rattle.model_laws.proofs.answers.what_is_waited_for_is_seen.Goals as goal

pub returns : goal.returns
returns c = waited_seen
