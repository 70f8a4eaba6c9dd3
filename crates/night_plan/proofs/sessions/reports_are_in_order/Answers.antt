use Rattle.night_plan.proofs.Crashing.{reported_in_order}
use Rattle.night_plan.proofs.sessions.reports_are_in_order.Goals as goal

pub returns : goal.returns
returns c = reported_in_order
