use Rattle.night_plan.proofs.Growing.{grows_alone}
use Rattle.night_plan.proofs.growth.growth_changes_no_standing.Goals as goal

pub returns : goal.returns
returns c = grows_alone
