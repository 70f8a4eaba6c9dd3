use Rattle.drive_nights.proofs.Marking.{nights_end, nights_go_on}
use Rattle.drive_nights.proofs.effects.a_night_goes_on_until_its_mark.Goals as goal

pub returns : goal.returns
returns c = record { ends = nights_end; goes_on = nights_go_on }
