use Rattle.state_renewal.proofs.Twice.{renewed_again}
use Rattle.state_renewal.proofs.renewals.a_second_renewal_changes_nothing.Goals as goal

pub returns : goal.returns
returns c = renewed_again
