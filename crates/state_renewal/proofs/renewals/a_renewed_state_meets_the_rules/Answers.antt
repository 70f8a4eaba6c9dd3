use Rattle.state_renewal.proofs.RulesKept.{rules_kept}
use Rattle.state_renewal.proofs.renewals.a_renewed_state_meets_the_rules.Goals as goal

pub returns : goal.returns
returns c = rules_kept
