use Rattle.night_plan.proofs.Stepping.{steps_begin_cleanups}
use Rattle.night_plan.proofs.steps.growth_keeps_cleanups.Goals as goal

pub returns : goal.returns
returns c = steps_begin_cleanups
