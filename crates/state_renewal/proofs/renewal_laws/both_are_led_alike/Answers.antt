use Rattle.run_model.proofs.Common.{◌∙◌, ap, map, sym, run}
use Rattle.state_renewal.specs.PartEvents.{event_renumbered}
use Rattle.state_renewal.specs.GoingOn.{going_on}
use Rattle.state_renewal.proofs.Begins.{begins}
use Rattle.state_renewal.proofs.Over.{led_on}
use Rattle.state_renewal.proofs.renewal_laws.both_are_led_alike.Goals as goal

pub returns-clause-begins : goal.returns-clause-begins
returns-clause-begins c = begins

pub returns-clause-run : goal.returns-clause-run
returns-clause-run c = λ p q events goes.
    ap (λ r. run r (map (event_renumbered (going_on p)) events)) (sym (begins p goes.rules))
    ∙ (led_on p q events goes).run
