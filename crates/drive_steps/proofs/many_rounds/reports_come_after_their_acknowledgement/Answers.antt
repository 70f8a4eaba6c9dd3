use Rattle.drive_steps.proofs.Following.{reports_come_after}
use Rattle.drive_steps.proofs.many_rounds.reports_come_after_their_acknowledgement.Goals as goal

pub returns : goal.returns
returns c = reports_come_after
