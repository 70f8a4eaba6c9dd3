use Rattle.night_drive.proofs.Deriving.{waits_stop}
use Rattle.night_drive.proofs.turns.a_wait_stops_what_its_scope_reaches.Goals as goal

pub returns : goal.returns
returns c = waits_stop
