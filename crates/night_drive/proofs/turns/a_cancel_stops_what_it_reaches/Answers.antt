use Rattle.night_drive.proofs.Hitting.{cancel_stops}
use Rattle.night_drive.proofs.turns.a_cancel_stops_what_it_reaches.Goals as goal

pub returns : goal.returns
returns c = cancel_stops
