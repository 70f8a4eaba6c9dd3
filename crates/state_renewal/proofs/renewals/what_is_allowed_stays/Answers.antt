use Rattle.state_renewal.proofs.Refusals.{allowed_before, allowed_renewed}
use Rattle.state_renewal.proofs.renewals.what_is_allowed_stays.Goals as goal

pub returns-clause-allowed : goal.returns-clause-allowed
returns-clause-allowed c = allowed_renewed

pub returns-clause-before : goal.returns-clause-before
returns-clause-before c = allowed_before
