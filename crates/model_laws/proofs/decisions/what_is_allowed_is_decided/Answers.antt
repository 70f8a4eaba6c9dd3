use Rattle.model_laws.proofs.Deciding.{allowed_decided, decision_allowed}
use Rattle.model_laws.proofs.decisions.what_is_allowed_is_decided.Goals as goal

pub returns : goal.returns
returns c = λ p event numbered recorded.
    (allowed_decided p event numbered recorded, decision_allowed p event)
