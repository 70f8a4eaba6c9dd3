use Rattle.drive_nights.proofs.GoingOn.{opened_nights_go_on}
use Rattle.drive_nights.proofs.effects.an_opened_night_goes_on.Goals as goal

pub returns : goal.returns
returns c = opened_nights_go_on
