use Rattle.drive_steps.proofs.Playing.{rows_begin_all}
use Rattle.drive_steps.proofs.rows.a_row_begins_all.Goals as goal

pub returns : goal.returns
returns c = rows_begin_all
