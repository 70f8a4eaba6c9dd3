use Rattle.night_drive.proofs.Hitting.{advance_stops}
use Rattle.night_drive.proofs.turns.an_advance_stops_what_is_due.Goals as goal

pub returns : goal.returns
returns c = advance_stops
