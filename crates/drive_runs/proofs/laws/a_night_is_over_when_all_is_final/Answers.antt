use Rattle.drive_runs.proofs.Finishing.{over_so}
use Rattle.drive_runs.proofs.laws.a_night_is_over_when_all_is_final.Goals as goal

pub returns : goal.returns
returns c = over_so
