use Rattle.state_renewal.proofs.Stays.{first_ready_same}
use Rattle.state_renewal.proofs.renewals.the_next_task_is_the_one_that_was.Goals as goal

pub returns : goal.returns
returns c = first_ready_same
