use Rattle.state_renewal.proofs.Over.{led_on}
use Rattle.state_renewal.proofs.Replies.{commands_alike, finishes_alike, starts_alike}
use Rattle.state_renewal.specs.GoingOn.{going_on}
use Rattle.state_renewal.proofs.renewal_laws.both_answer_calls_alike.Goals as goal

pub returns-clause-commands : goal.returns-clause-commands
returns-clause-commands c = λ p q events log call goes is place.
    commands_alike (going_on p) q log call (led_on p q events goes).both is place

pub returns-clause-starts : goal.returns-clause-starts
returns-clause-starts c = λ p q events log goes.
    starts_alike (going_on p) q log (led_on p q events goes).both

pub returns-clause-finishes : goal.returns-clause-finishes
returns-clause-finishes c = λ p q events n outcome goes is.
    finishes_alike (going_on p) q n outcome (led_on p q events goes).both is
