use Rattle.model_laws.proofs.Keeping.{finish_within}
use Rattle.model_laws.proofs.StartingReplies.{running_finishes}
use Rattle.model_laws.proofs.sessions.a_running_task_can_finish.Goals as goal

pub returns-clause-accepted : goal.returns-clause-accepted
returns-clause-accepted c = running_finishes

pub returns-clause-room : goal.returns-clause-room
returns-clause-room c = finish_within
