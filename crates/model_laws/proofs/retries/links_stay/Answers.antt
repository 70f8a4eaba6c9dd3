use Rattle.model_laws.proofs.RetriedOnce.{link_after}
use Rattle.model_laws.proofs.retries.links_stay.Goals as goal

pub returns : goal.returns
returns c = link_after
