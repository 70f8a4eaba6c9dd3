use Rattle.book_model.proofs.Playing.{accepted_left, accepted_run}
use Rattle.book_model.proofs.plays.accepted_events_make_what_is_left.Goals as goal

pub returns : goal.returns
returns c = record { state = accepted_run; session = accepted_left }
