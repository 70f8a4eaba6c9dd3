use Rattle.drive_steps.proofs.Following.{none_reported_twice}
use Rattle.drive_steps.proofs.many_rounds.no_task_is_reported_twice.Goals as goal

pub returns : goal.returns
returns c = none_reported_twice
