use Rattle.drive_steps.proofs.Ceasing.{groups_are_canceled}
use Rattle.drive_steps.proofs.Sparing.{others_go_on}
use Rattle.drive_steps.proofs.cancels.canceled_groups_are_done.Goals as goal

pub returns : goal.returns
returns c = record { canceled = groups_are_canceled; others = others_go_on }
