use Rattle.model_laws.proofs.RetriedOnce.{retried_once}
use Rattle.model_laws.proofs.retries.a_task_is_retried_once.Goals as goal

pub returns : goal.returns
returns c = retried_once
