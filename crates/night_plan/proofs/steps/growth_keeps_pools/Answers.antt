use Rattle.night_plan.proofs.Stepping.{steps_keep_pools}
use Rattle.night_plan.proofs.steps.growth_keeps_pools.Goals as goal

pub returns : goal.returns
returns c = steps_keep_pools
