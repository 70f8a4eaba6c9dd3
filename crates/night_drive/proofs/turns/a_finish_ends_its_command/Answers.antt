use Rattle.night_drive.proofs.Finishing.{finish_ends}
use Rattle.night_drive.proofs.turns.a_finish_ends_its_command.Goals as goal

pub returns : goal.returns
returns c = finish_ends
