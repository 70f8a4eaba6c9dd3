use Rattle.crew_laws.proofs.Once.{never_in_two, once_a_night}
use Rattle.crew_laws.proofs.nights.no_turn_is_made_twice.Goals as goal

pub returns-clause-night : goal.returns-clause-night
returns-clause-night c = once_a_night

pub returns-clause-nights : goal.returns-clause-nights
returns-clause-nights c = never_in_two
