use Rattle.model_laws.proofs.RunLemmas.{run_counts}
use Rattle.model_laws.proofs.runs.runs_count_their_events.Goals as goal

pub returns : goal.returns
returns c = run_counts
