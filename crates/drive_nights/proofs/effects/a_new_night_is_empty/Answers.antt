use Rattle.drive_nights.proofs.Numbering.{new_nights_are_empty}
use Rattle.drive_nights.proofs.effects.a_new_night_is_empty.Goals as goal

pub returns : goal.returns
returns c = new_nights_are_empty
