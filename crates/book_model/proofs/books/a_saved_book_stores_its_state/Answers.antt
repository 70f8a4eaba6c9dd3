use Rattle.book_model.proofs.BookLemmas.{saved_stores}
use Rattle.book_model.proofs.books.a_saved_book_stores_its_state.Goals as goal

pub returns : goal.returns
returns g c = saved_stores g.D.RunDisk.state
