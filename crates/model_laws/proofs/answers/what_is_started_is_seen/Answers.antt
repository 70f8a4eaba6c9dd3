use Rattle.model_laws.proofs.Waiting.{started_seen}
use Rattle.model_laws.proofs.answers.what_is_started_is_seen.Goals as goal

pub returns : goal.returns
returns c = started_seen
