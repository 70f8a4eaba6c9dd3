use Rattle.book_model.proofs.NightLemmas.{kept_stores, whole_opening}
use Rattle.book_model.proofs.books.an_opening_loses_nothing_from_its_first_read_on.Goals as goal

pub returns-clause-any_moment : goal.returns-clause-any_moment
returns-clause-any_moment g c layout given read new p image fresh batches =
    whole_opening layout (g.D.RunDisk.state given) (g.D.RunDisk.state read)
    (g.D.RunDisk.state new) p image fresh batches (g.met.D.RunDisk.is_disk given)
    (g.met.D.RunDisk.is_disk new)

pub returns-clause-kept : goal.returns-clause-kept
returns-clause-kept g c = kept_stores g.D.RunDisk.state
