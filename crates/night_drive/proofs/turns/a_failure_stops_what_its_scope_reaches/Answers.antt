use Rattle.night_drive.proofs.Deriving.{finishes_stop}
use Rattle.night_drive.proofs.turns.a_failure_stops_what_its_scope_reaches.Goals as goal

pub returns : goal.returns
returns c = finishes_stop
