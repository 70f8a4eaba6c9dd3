use Rattle.book_model.proofs.Resting.{rests}
use Rattle.book_model.proofs.steps.a_book_that_is_not_broken_stays_at_rest.Goals as goal

pub returns : goal.returns
returns g c old new steps answers safe rest played sound =
    (rests g.D.RunDisk.state old new steps answers sound played
    (record { safe = safe; rest = rest })).rest
