use Rattle.run_model.proofs.Common.{refl, formatted}
use Rattle.run_model.specs.declared.layouts.Layout.TheVariants.{Small}
use Rattle.model_laws.proofs.Starting.{formatted_consistent}
use Rattle.model_laws.proofs.StateSteps.{run_keeps}
use Rattle.state_renewal.specs.Days.{first_night}
use Rattle.state_renewal.proofs.days.a_night_and_a_day_meet_the_premises.Goals as goal

pub returns : goal.returns
returns c = record {
  rules = run_keeps first_night (formatted Small) _ (formatted_consistent Small) refl;
  names = refl;
  run = refl;
}
