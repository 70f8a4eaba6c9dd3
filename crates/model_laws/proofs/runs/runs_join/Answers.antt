use Rattle.model_laws.proofs.RunLemmas.{run_join}
use Rattle.model_laws.proofs.runs.runs_join.Goals as goal

pub returns : goal.returns
returns c = run_join
