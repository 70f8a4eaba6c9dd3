use Rattle.book_model.proofs.ManyNightsLemmas.{book_nights, stored_nights}
use Rattle.book_model.proofs.machines.many_nights_lose_nothing_acknowledged.Goals as goal

pub returns-clause-machine : goal.returns-clause-machine
returns-clause-machine g c = stored_nights

pub returns-clause-books : goal.returns-clause-books
returns-clause-books g c given next p nights =
    book_nights g.D.RunDisk.state given next p nights g.met.D.RunDisk.is_disk
