use Rattle.book_model.proofs.Playing.{acknowledged_first, acknowledged_reported, none_acknowledged}
use Rattle.book_model.proofs.plays.acknowledged_events_are_the_first_accepted.Goals as goal

pub returns : goal.returns
returns c = record {
  first = acknowledged_first;
  counted = acknowledged_reported;
  none = none_acknowledged;
}
