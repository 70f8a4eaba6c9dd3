use Rattle.night_plan.proofs.Stepping.{canceled_for_good}
use Rattle.night_plan.proofs.steps.what_was_canceled_stays_so.Goals as goal

pub returns : goal.returns
returns c = canceled_for_good
