use Rattle.state_renewal.proofs.NamesKept.{names_kept, room_kept}
use Rattle.state_renewal.proofs.renewals.names_and_room_are_free_again.Goals as goal

pub returns-clause-names : goal.returns-clause-names
returns-clause-names c = names_kept

pub returns-clause-room : goal.returns-clause-room
returns-clause-room c = room_kept
