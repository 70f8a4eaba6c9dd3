use Rattle.book_model.proofs.BookLemmas.{carries_after, carries_more, carries_none}
use Rattle.book_model.proofs.books.a_book_carries_on.Goals as goal

pub returns-clause-none : goal.returns-clause-none
returns-clause-none g c h durable =
    carries_none g.D.RunDisk.state h (g.met.D.RunDisk.is_disk h.journal.disk) durable

pub returns-clause-more : goal.returns-clause-more
returns-clause-more g c h s events =
    carries_more g.D.RunDisk.state h s events (g.met.D.RunDisk.is_disk h.journal.disk)

pub returns-clause-both : goal.returns-clause-both
returns-clause-both g c = carries_after g.D.RunDisk.state
