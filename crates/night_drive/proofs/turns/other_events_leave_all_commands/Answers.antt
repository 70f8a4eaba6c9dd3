use Rattle.night_drive.proofs.Leaving.{others_leave}
use Rattle.night_drive.proofs.turns.other_events_leave_all_commands.Goals as goal

pub returns : goal.returns
returns c = others_leave
