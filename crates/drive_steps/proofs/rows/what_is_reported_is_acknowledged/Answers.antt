use Rattle.drive_steps.proofs.Playing.{reports_acknowledged}
use Rattle.drive_steps.proofs.rows.what_is_reported_is_acknowledged.Goals as goal

pub returns : goal.returns
returns c = reports_acknowledged
