-- Two events, and the state after each of them.
use Rattle.std.specs.Prelude.{List, [], ◌∷◌}
use Rattle.run_model.specs.Event.{Event}
use Rattle.run_model.specs.Event as event
use Rattle.run_model.specs.State.{State}
use Rattle.book_model.specs.Examples.Nights.{new_store}

abbrev pub two_advances : List Event
two_advances = event.Advance 7 ∷ event.Advance 8 ∷ []

-- A new store whose clock was advanced to 7.
abbrev pub at_seven : State
at_seven =
    record new_store.state { count = 2; tree = record new_store.state.tree { clock = 7 } }

-- The same store, whose clock was then advanced to 8.
abbrev pub at_eight : State
at_eight =
    record new_store.state { count = 3; tree = record new_store.state.tree { clock = 8 } }
