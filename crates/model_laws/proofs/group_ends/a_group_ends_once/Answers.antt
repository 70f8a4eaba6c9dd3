use Rattle.run_model.proofs.Common.{◌+◌, Some, None, group_of_task}
use Rattle.model_laws.proofs.group_ends.a_group_ends_once.Goals as goal
use Rattle.model_laws.proofs.EndedOnce.{ended_once, ended_before}

pub returns : goal.returns
returns c = record {
  errors = λ p n text. ended_once p (group_of_task p.work n) (p.count + 1) (Some text);
  waits = λ p g. ended_once p g (p.count + 1) None;
  restarts = ended_before;
  cancels = ended_once;
}
