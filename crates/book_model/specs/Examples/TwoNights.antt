-- Two sessions of the machine over a new small store, each ended by a crash.
use Rattle.std.specs.Prelude.{◌∷◌, [], ℕ, List, take}
use Rattle.run_model.specs.declared.answers.Reply.{Reply}
use Rattle.run_model.specs.declared.commands.Step.{Step}
use Rattle.run_model.specs.declared.commands.Wish.TheVariants.{Cancel, Cause}
use Rattle.run_model.specs.declared.layouts.Layout.TheVariants.{Small}
use Rattle.run_model.specs.Session.{session_after}
use Rattle.run_model.specs.State.{State, formatted}
use Rattle.book_model.specs.Examples.Calls.{acked, cancel, derive, done, flush, scope_made}
use Rattle.book_model.specs.Examples.Nights.{new_store}
use Rattle.book_model.specs.ManyNights.{Night, Spent}

-- The store, which has only root.
abbrev pub store : State
store = formatted Small

-- Three commands and a flush of them are answered, and then a fourth command.
abbrev pub answered : List (Step × Reply)
answered =
    (derive "a" "root" Cause, scope_made 1)
    ∷ (derive "b" "a" Cancel, scope_made 2)
    ∷ (cancel "a" "disk", done)
    ∷ (flush, acked 4)
    ∷ (derive "c" "root" Cancel, scope_made 3)
    ∷ []

-- The first session: a crash comes during a fifth command.
abbrev pub first_night : Night
first_night = Spent answered (derive "d" "root" Cancel ∷ [])

-- The second session, over a store with the first four events. A flush has nothing to save, and
-- returns the count, which includes this opening. A command is answered, and then a crash comes.
abbrev pub second_night : Night
second_night =
    Spent ((flush, acked 6) ∷ (derive "e" "root" Cancel, scope_made 4) ∷ []) []

-- The five commands of the first session.
abbrev pub five : List Step
five =
    derive "a" "root" Cause ∷ derive "b" "a" Cancel ∷ cancel "a" "disk"
    ∷ derive "c" "root" Cancel ∷ derive "d" "root" Cancel ∷ []

-- The state after the first n of them.
abbrev pub after_first : ℕ → State
after_first n = (session_after new_store (take n five)).state
