use Rattle.night_plan.proofs.Stepping.{steps_bounded}
use Rattle.night_plan.proofs.steps.growth_keeps_begins_bounded.Goals as goal

pub returns : goal.returns
returns c = steps_bounded
