use Rattle.night_plan.proofs.Stopping.{cleanups_run_on}
use Rattle.night_plan.proofs.stops.cleanups_run_on.Goals as goal

pub returns : goal.returns
returns c = cleanups_run_on
