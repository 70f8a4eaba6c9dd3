use Rattle.drive_nights.proofs.Numbering.{none_is_later}
use Rattle.drive_nights.proofs.effects.no_scope_is_of_a_later_night.Goals as goal

pub returns : goal.returns
returns c = none_is_later
