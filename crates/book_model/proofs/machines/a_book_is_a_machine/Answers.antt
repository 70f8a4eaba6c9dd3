use Rattle.book_model.specs.Machines.{Stored}
use Rattle.book_model.specs.Standing.{Closed}
use Rattle.book_model.proofs.Machining.{all_as}
use Rattle.book_model.proofs.machines.a_book_is_a_machine.Goals as goal

pub returns-clause-store : goal.returns-clause-store
returns-clause-store g c given p moves new lies does =
    all_as g.D.RunDisk.state (Closed given) new moves (Stored p) g.met.D.RunDisk.is_disk lies does

pub returns-clause-anywhere : goal.returns-clause-anywhere
returns-clause-anywhere g c old new m moves =
    all_as g.D.RunDisk.state old new moves m g.met.D.RunDisk.is_disk
