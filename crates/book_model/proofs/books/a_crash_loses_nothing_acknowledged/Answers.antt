use Rattle.book_model.proofs.BookLemmas.{left_any_moment, left_now}
use Rattle.book_model.proofs.books.a_crash_loses_nothing_acknowledged.Goals as goal

pub returns-clause-any_moment : goal.returns-clause-any_moment
returns-clause-any_moment g c = left_any_moment g.D.RunDisk.state

pub returns-clause-now : goal.returns-clause-now
returns-clause-now g c = left_now g.D.RunDisk.state
