use Rattle.drive_steps.proofs.Showing.{cut_d, stop_disks}
use Rattle.drive_steps.proofs.examples.cancels_have_steps.Goals as goal

pub returns-clause-command : goal.returns-clause-command
returns-clause-command c plan names four = cut_d plan names four

pub returns-clause-groups : goal.returns-clause-groups
returns-clause-groups c plan names four = stop_disks plan names four
