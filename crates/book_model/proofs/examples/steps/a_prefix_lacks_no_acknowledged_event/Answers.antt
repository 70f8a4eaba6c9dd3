use Rattle.std.proofs.Common.{◌++◌, arith}
use Rattle.book_model.specs.Examples.Nights.{new_store}
use Rattle.book_model.proofs.PrefixLemmas.{prefix_least}
use Rattle.book_model.specs.Examples.Plays.{first_events}
use Rattle.book_model.specs.Examples.Stores.{two_events}
use Rattle.book_model.proofs.examples.steps.a_prefix_lacks_no_acknowledged_event.Goals as goal

pub returns : goal.returns
returns c q three is =
    omega (arith, three, prefix_least new_store.state q (first_events ++ two_events) 3 is)
