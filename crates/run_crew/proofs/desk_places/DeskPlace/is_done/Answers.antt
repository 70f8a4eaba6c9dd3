use Rattle.run_crew.proofs.desk_places.DeskPlace.is_done.Goals as goal

pub returns : goal.returns
returns g c = (c.book-book.ensures.carries, c.is_done.ensures)
