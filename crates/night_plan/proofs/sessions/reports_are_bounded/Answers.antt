use Rattle.night_plan.proofs.Crashing.{bounded_reports}
use Rattle.night_plan.proofs.sessions.reports_are_bounded.Goals as goal

pub returns : goal.returns
returns c = bounded_reports
