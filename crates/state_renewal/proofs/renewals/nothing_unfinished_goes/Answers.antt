use Rattle.state_renewal.proofs.Stays.{keeps_unfinished}
use Rattle.state_renewal.proofs.renewals.nothing_unfinished_goes.Goals as goal

pub returns : goal.returns
returns c = keeps_unfinished
