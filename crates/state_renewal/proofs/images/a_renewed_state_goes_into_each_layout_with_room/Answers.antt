use Rattle.state_renewal.proofs.Layouts.{rules_there}
use Rattle.state_renewal.proofs.images.a_renewed_state_goes_into_each_layout_with_room.Goals as goal

pub returns-clause-rules : goal.returns-clause-rules
returns-clause-rules c = rules_there
