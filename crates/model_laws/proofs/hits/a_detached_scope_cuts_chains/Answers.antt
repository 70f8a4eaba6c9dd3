use Rattle.model_laws.proofs.Reaches.{cut_exactly}
use Rattle.model_laws.proofs.hits.a_detached_scope_cuts_chains.Goals as goal

pub returns : goal.returns
returns c = cut_exactly
