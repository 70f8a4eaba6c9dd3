use Rattle.model_laws.proofs.Lines.{first_hit_up, deadline_up, value_up}
use Rattle.model_laws.proofs.searches.searches_go_up.Goals as goal

pub returns-clause-first_hit : goal.returns-clause-first_hit
returns-clause-first_hit c = first_hit_up

pub returns-clause-deadline : goal.returns-clause-deadline
returns-clause-deadline c = deadline_up

pub returns-clause-value : goal.returns-clause-value
returns-clause-value c = λ rows s row ordered found key.
    value_up key rows s row ordered found
