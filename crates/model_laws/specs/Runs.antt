-- The effect of runs of events on a state.
use Rattle.std.specs.Prelude.{◌≡◌, ◌+◌, List, ◌++◌, length, Some}
use Rattle.std.specs.Option.{option_and_then}
use Rattle.run_model.specs.Event.{Event}
use Rattle.run_model.specs.State.{State}
use Rattle.run_model.specs.Allowed.{after, run}

-- Running two lists joined is running the first one, and then the second one from where it led.
abbrev pub RunsJoin : Type 0
RunsJoin = (p : State) (first second : List Event)
    → run p (first ++ second) ≡ option_and_then (λ q. run q second) (run p first)

-- Each event of a run adds one to the count.
abbrev pub RunsCount : Type 0
RunsCount = (p q : State) (events : List Event) → run p events ≡ Some q
    → q.count ≡ p.count + length events

-- If this is true of a state, it is still true after each event that the state allows.
abbrev pub EventsKeep : (State → Type 0) → Type 0
EventsKeep P = (p q : State) (event : Event) → P p → after p event ≡ Some q → P q

-- If this is true of a state, it is still true after each run from it.
abbrev pub RunsKeep : (State → Type 0) → Type 0
RunsKeep P = (p q : State) (events : List Event) → P p → run p events ≡ Some q → P q
