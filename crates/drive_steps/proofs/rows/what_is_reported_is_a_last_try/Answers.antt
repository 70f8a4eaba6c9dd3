use Rattle.drive_steps.proofs.Playing.{reports_last_tries}
use Rattle.drive_steps.proofs.rows.what_is_reported_is_a_last_try.Goals as goal

pub returns : goal.returns
returns c = reports_last_tries
