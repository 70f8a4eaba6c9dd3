use Rattle.run_model.proofs.Common.{false, refl, true}
use Rattle.crew_laws.proofs.ExampleNights.{follows, has_turn, leads_left, second_night}
use Rattle.crew_laws.proofs.examples.a_retry_is_another_task.Goals as goal

pub returns-clause-first : goal.returns-clause-first
returns-clause-first c = leads_left

pub returns-clause-turn : goal.returns-clause-turn
returns-clause-turn c = has_turn 5 0 false

pub returns-clause-never : goal.returns-clause-never
returns-clause-never c = refl

pub returns-clause-retried : goal.returns-clause-retried
returns-clause-retried c = follows

pub returns-clause-again : goal.returns-clause-again
returns-clause-again c = second_night

pub returns-clause-other : goal.returns-clause-other
returns-clause-other c = has_turn 9 1 true
