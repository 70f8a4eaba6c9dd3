use Rattle.book_model.proofs.Playing.{may_play, plays_sound}
use Rattle.book_model.proofs.plays.without_faults_a_book_answers_as_its_session.Goals as goal

pub returns-clause-only : goal.returns-clause-only
returns-clause-only c = plays_sound

pub returns-clause-may : goal.returns-clause-may
returns-clause-may c = may_play
