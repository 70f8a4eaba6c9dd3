use Rattle.night_drive.proofs.Parting.{tasks_part}
use Rattle.night_drive.proofs.plan_turns.a_task_is_of_one_command.Goals as goal

pub returns : goal.returns
returns c = tasks_part
