use Rattle.book_model.proofs.Playing.{saves_beside}
use Rattle.book_model.proofs.plays.saves_change_no_other_reply.Goals as goal

pub returns : goal.returns
returns c = saves_beside
