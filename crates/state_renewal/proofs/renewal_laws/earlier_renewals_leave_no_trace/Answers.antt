use Rattle.state_renewal.proofs.Twice.{renewed_same}
use Rattle.state_renewal.specs.GoingOn.{going_on}
use Rattle.state_renewal.proofs.Over.{led_on, scopes_gone}
use Rattle.state_renewal.proofs.Runs.{are_both}
use Rattle.state_renewal.proofs.renewal_laws.earlier_renewals_leave_no_trace.Goals as goal

pub returns : goal.returns
returns c = λ p q events goes.
    renewed_same (going_on p) q (are_both (going_on p) q (led_on p q events goes).both)
    (λ s row found gone. scopes_gone p q events s goes gone)
