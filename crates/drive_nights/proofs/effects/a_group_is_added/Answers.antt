use Rattle.drive_nights.proofs.Growing.{growths_house}
use Rattle.drive_nights.proofs.effects.a_group_is_added.Goals as goal

pub returns : goal.returns
returns c = growths_house
