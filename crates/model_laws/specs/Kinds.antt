-- The events that no command makes: a start, a finish and a restart.
use Rattle.std.specs.Prelude.{Bool, true, false}
use Rattle.run_model.specs.Event.{Event}
use Rattle.run_model.specs.Event as event

abbrev pub is_start : Event → Bool
is_start (event.Start task) = true
is_start _ = false

abbrev pub is_finish : Event → Bool
is_finish (event.Finish task outcome) = true
is_finish _ = false

abbrev pub is_restart : Event → Bool
is_restart event.Restart = true
is_restart _ = false
