use Rattle.drive_nights.proofs.Marking.{marks_end}
use Rattle.drive_nights.proofs.effects.a_mark_ends_a_night.Goals as goal

pub returns : goal.returns
returns c = marks_end
