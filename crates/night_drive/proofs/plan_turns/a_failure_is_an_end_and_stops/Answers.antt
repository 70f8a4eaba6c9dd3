use Rattle.night_drive.proofs.Playing.{failures_are_turns}
use Rattle.night_drive.proofs.plan_turns.a_failure_is_an_end_and_stops.Goals as goal

pub returns : goal.returns
returns c = failures_are_turns
