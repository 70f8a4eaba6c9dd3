use Rattle.book_model.proofs.Playing.{plays_join}
use Rattle.book_model.proofs.plays.steps_may_be_split.Goals as goal

pub returns : goal.returns
returns c = plays_join
