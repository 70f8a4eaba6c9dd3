use Rattle.drive_nights.proofs.Lacking.{nothing_is_lacking}
use Rattle.drive_nights.proofs.effects.a_group_that_lacks_nothing_takes_tasks.Goals as goal

pub returns : goal.returns
returns c = nothing_is_lacking
