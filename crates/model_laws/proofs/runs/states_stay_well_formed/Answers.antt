use Rattle.model_laws.proofs.WellFormed.{well_formed_root, well_formed_after, well_formed_run}
use Rattle.model_laws.proofs.WellFormed.{well_formed_consistent}
use Rattle.model_laws.proofs.runs.states_stay_well_formed.Goals as goal

pub returns-clause-root : goal.returns-clause-root
returns-clause-root c = well_formed_root

pub returns-clause-events : goal.returns-clause-events
returns-clause-events c = well_formed_after

pub returns-clause-runs : goal.returns-clause-runs
returns-clause-runs c = well_formed_run

pub returns-clause-consistent : goal.returns-clause-consistent
returns-clause-consistent c = well_formed_consistent
