use Rattle.book_model.proofs.ManyNightsLemmas.{taken_acked, taken_state}
use Rattle.book_model.proofs.machines.a_machine_answers_from_its_history.Goals as goal

pub returns-clause-state : goal.returns-clause-state
returns-clause-state c = taken_state

pub returns-clause-acked : goal.returns-clause-acked
returns-clause-acked c = taken_acked
