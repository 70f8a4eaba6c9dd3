use Rattle.state_renewal.proofs.Alike.{alike}
use Rattle.state_renewal.proofs.Over.{led_on}
use Rattle.state_renewal.specs.GoingOn.{going_on}
use Rattle.state_renewal.proofs.renewal_laws.both_answer_questions_alike.Goals as goal

pub returns : goal.returns
returns c = λ p q events goes.
    let both = (led_on p q events goes).both in
    alike (going_on p) q both.old both.new both.go
