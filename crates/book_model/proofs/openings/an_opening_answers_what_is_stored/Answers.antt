use Rattle.book_model.proofs.OpeningLemmas.{opens_none, opens_state}
use Rattle.book_model.proofs.openings.an_opening_answers_what_is_stored.Goals as goal

pub returns-clause-state : goal.returns-clause-state
returns-clause-state g c given result p =
    opens_state g.D.RunDisk.state given result p (g.met.D.RunDisk.is_disk given)

pub returns-clause-none : goal.returns-clause-none
returns-clause-none g c given result why =
    opens_none g.D.RunDisk.state given result why (g.met.D.RunDisk.is_disk given)
