use Rattle.night_plan.proofs.Crashing.{reported_no_more}
use Rattle.night_plan.proofs.sessions.what_ended_ok_is_reported_no_more.Goals as goal

pub returns : goal.returns
returns c = reported_no_more
