use Rattle.model_laws.proofs.Queueing.{first_admitted, all_admitted}
use Rattle.model_laws.proofs.queues.the_first_unfinished_tasks_are_admitted.Goals as goal

pub returns-clause-limited : goal.returns-clause-limited
returns-clause-limited c = first_admitted

pub returns-clause-unlimited : goal.returns-clause-unlimited
returns-clause-unlimited c = all_admitted
