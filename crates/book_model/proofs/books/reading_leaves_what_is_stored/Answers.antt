use Rattle.book_model.proofs.BookLemmas.{reads_leave}
use Rattle.book_model.proofs.books.reading_leaves_what_is_stored.Goals as goal

pub returns : goal.returns
returns g c old new p rest reads stores =
    reads_leave (g.D.RunDisk.state old) (g.D.RunDisk.state new) p rest reads stores
