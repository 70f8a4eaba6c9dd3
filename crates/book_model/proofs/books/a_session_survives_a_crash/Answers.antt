use Rattle.book_model.proofs.NightLemmas.{kept_from_opening, kept_night, kept_since}
use Rattle.book_model.proofs.books.a_session_survives_a_crash.Goals as goal

pub returns-clause-any_moment : goal.returns-clause-any_moment
returns-clause-any_moment g c = kept_since g.D.RunDisk.state

pub returns-clause-now : goal.returns-clause-now
returns-clause-now g c = kept_night g.D.RunDisk.state

pub returns-clause-opening : goal.returns-clause-opening
returns-clause-opening g c = kept_from_opening g.D.RunDisk.state
