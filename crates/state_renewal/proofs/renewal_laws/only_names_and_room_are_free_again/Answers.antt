use Rattle.state_renewal.proofs.Refusals.{allowed_same}
use Rattle.state_renewal.specs.GoingOn.{going_on}
use Rattle.state_renewal.proofs.Over.{led_on}
use Rattle.state_renewal.proofs.Runs.{are_both}
use Rattle.state_renewal.proofs.renewal_laws.only_names_and_room_are_free_again.Goals as goal

pub returns : goal.returns
returns c = λ p q events e goes is.
    allowed_same (going_on p) q e (are_both (going_on p) q (led_on p q events goes).both) is
