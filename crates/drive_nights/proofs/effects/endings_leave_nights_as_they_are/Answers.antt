use Rattle.drive_nights.proofs.Leaving.{endings_leave_nights}
use Rattle.drive_nights.proofs.effects.endings_leave_nights_as_they_are.Goals as goal

pub returns : goal.returns
returns c = endings_leave_nights
