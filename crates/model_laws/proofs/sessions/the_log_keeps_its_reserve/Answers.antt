use Rattle.model_laws.proofs.Keeping.{opening_reserve, steps_keep}
use Rattle.model_laws.proofs.sessions.the_log_keeps_its_reserve.Goals as goal

pub returns-clause-opening : goal.returns-clause-opening
returns-clause-opening c = opening_reserve

pub returns-clause-steps : goal.returns-clause-steps
returns-clause-steps c = steps_keep
