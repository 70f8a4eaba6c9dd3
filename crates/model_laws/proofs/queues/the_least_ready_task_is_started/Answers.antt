use Rattle.model_laws.proofs.Searching.{first_is_least, least_is_first, none_is_ready}
use Rattle.model_laws.proofs.Searching.{none_is_first}
use Rattle.model_laws.proofs.StartingReplies.{started_least}
use Rattle.model_laws.proofs.queues.the_least_ready_task_is_started.Goals as goal

pub returns-clause-started : goal.returns-clause-started
returns-clause-started c = started_least

pub returns-clause-found : goal.returns-clause-found
returns-clause-found c = λ w n. (first_is_least w n, least_is_first w n)

pub returns-clause-none : goal.returns-clause-none
returns-clause-none c = λ w. (none_is_ready w, none_is_first w)
