use Rattle.book_model.proofs.OpeningLemmas.{formats_cause, opens_cause, recovers_cause}
use Rattle.book_model.proofs.openings.a_fault_of_the_device_has_its_cause.Goals as goal

pub returns-clause-recovers : goal.returns-clause-recovers
returns-clause-recovers g c = recovers_cause g.D.RunDisk.state

pub returns-clause-opens : goal.returns-clause-opens
returns-clause-opens g c = opens_cause g.D.RunDisk.state

pub returns-clause-formats : goal.returns-clause-formats
returns-clause-formats g c = formats_cause g.D.RunDisk.state
