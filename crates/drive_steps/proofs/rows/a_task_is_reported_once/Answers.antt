use Rattle.drive_steps.proofs.Playing.{tasks_are_reported_once}
use Rattle.drive_steps.proofs.rows.a_task_is_reported_once.Goals as goal

pub returns : goal.returns
returns c = tasks_are_reported_once
