use Rattle.book_model.proofs.OpeningLemmas.{recovers_none, recovers_reads, recovers_state}
use Rattle.book_model.proofs.openings.a_recovery_answers_what_is_stored.Goals as goal

pub returns-clause-state : goal.returns-clause-state
returns-clause-state g c old new result p =
    recovers_state g.D.RunDisk.state old new result p (g.met.D.RunDisk.is_disk old)

pub returns-clause-none : goal.returns-clause-none
returns-clause-none g c old new result why =
    recovers_none g.D.RunDisk.state old new result why (g.met.D.RunDisk.is_disk old)

pub returns-clause-reads : goal.returns-clause-reads
returns-clause-reads g c old new result =
    recovers_reads g.D.RunDisk.state old new result (g.met.D.RunDisk.is_disk old)
