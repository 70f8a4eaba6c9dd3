use Rattle.model_laws.proofs.Stays.{endings_after, endings_run}
use Rattle.model_laws.proofs.endings.endings_stay.Goals as goal

pub returns-clause-events : goal.returns-clause-events
returns-clause-events c = endings_after

pub returns-clause-runs : goal.returns-clause-runs
returns-clause-runs c = endings_run
