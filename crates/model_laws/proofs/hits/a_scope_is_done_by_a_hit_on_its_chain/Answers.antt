use Rattle.model_laws.proofs.Reaches.{done_exactly}
use Rattle.model_laws.proofs.hits.a_scope_is_done_by_a_hit_on_its_chain.Goals as goal

pub returns : goal.returns
returns c = done_exactly
