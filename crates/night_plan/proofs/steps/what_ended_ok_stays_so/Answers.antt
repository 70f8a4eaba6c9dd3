use Rattle.night_plan.proofs.Stepping.{ends_once}
use Rattle.night_plan.proofs.steps.what_ended_ok_stays_so.Goals as goal

pub returns : goal.returns
returns c n m steps k alike ok led = ends_once steps n m k alike ok led
