use Rattle.model_laws.proofs.RetriedOnce.{tried_again}
use Rattle.model_laws.proofs.retries.a_retry_is_a_task_of_its_own.Goals as goal

pub returns : goal.returns
returns c = tried_again
