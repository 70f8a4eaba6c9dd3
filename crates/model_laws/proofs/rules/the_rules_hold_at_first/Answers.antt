use Rattle.model_laws.proofs.rules.the_rules_hold_at_first.Goals as goal
use Rattle.model_laws.proofs.Starting.{formatted_consistent}

pub returns : goal.returns
returns c = formatted_consistent
