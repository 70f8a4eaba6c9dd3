use Rattle.night_plan.proofs.Growing.{groups_grow_alone}
use Rattle.night_plan.proofs.growth.a_group_changes_no_standing.Goals as goal

pub returns : goal.returns
returns c = groups_grow_alone
