use Rattle.model_laws.proofs.Least.{first_hit_least}
use Rattle.model_laws.proofs.searches.the_first_hit_is_the_least.Goals as goal

pub returns : goal.returns
returns c = first_hit_least
