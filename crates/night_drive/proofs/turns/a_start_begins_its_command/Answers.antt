use Rattle.night_drive.proofs.Starting.{start_begins}
use Rattle.night_drive.proofs.turns.a_start_begins_its_command.Goals as goal

pub returns : goal.returns
returns c = start_begins
