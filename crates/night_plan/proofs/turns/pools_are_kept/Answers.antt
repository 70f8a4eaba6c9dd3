use Rattle.night_plan.proofs.Keeping.{keeps_pools}
use Rattle.night_plan.proofs.turns.pools_are_kept.Goals as goal

pub returns : goal.returns
returns c = keeps_pools
