use Rattle.book_model.proofs.Stepping.{steps_play}
use Rattle.book_model.proofs.steps.steps_are_answered_as_a_session_may.Goals as goal

pub returns : goal.returns
returns g c = steps_play g.D.RunDisk.state
