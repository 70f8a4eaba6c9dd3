use Rattle.model_laws.proofs.rules.events_keep_the_rules.Goals as goal
use Rattle.model_laws.proofs.StateSteps.{event_keeps, run_keeps}

pub returns : goal.returns
returns c = record {
  events = λ p q event kept led. event_keeps p q event kept led;
  runs = λ p q events kept led. run_keeps events p q kept led;
}
