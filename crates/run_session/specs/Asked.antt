-- What a call asks for, before it is checked whether the record fits into the session's log.
use Rattle.std.specs.Prelude.{◌≡◌, ℕ, true, Option, Some, None, Result, Ok, IsTrue}
use Rattle.std.specs.Option.{option_and_then, ok_or, IfSome}
use Rattle.run_model.specs.declared.answers.Started.{Started}
use Rattle.run_model.specs.declared.commands.Command.{Command}
use Rattle.run_model.specs.declared.commands.Wish.{Wish}
use Rattle.run_model.specs.declared.refusals.Refusal.{Refusal}
use Rattle.run_model.specs.declared.refusals.Refusal.TheVariants.{NothingReady}
use Rattle.run_model.specs.declared.scopes.Kind.{Kind}
use Rattle.run_model.specs.Allowed.{allowed}
use Rattle.run_model.specs.Event.{Event}
use Rattle.run_model.specs.Records.{is_recorded, is_recorded_kind}
use Rattle.run_model.specs.State.{State}
use Rattle.run_model.specs.Tasks.{first_ready}
use Rattle.run_model.specs.Replies.{event_of, if_room, kind_made, started_of}

-- The command asks for this event, which has a record.
pub record IsAsked (p : State) (call : Command) (event : Event) : Type 0 where
  pub same : event ≡ event_of p call
  pub recorded : IsTrue (is_recorded event)

-- The wish becomes this kind at this clock, and a record can have this kind.
pub record IsWished (clock : ℕ) (wish : Wish) (kind : Kind) : Type 0 where
  pub same : kind ≡ kind_made clock wish
  pub recorded : IsTrue (is_recorded_kind kind)

-- An event is accepted if its record fits into the log, which has this many bytes.
abbrev pub room_for : State → ℕ → Option Event → Result (Option Event) Refusal
room_for p log None = Ok None
room_for p log (Some event) = if_room p log event

-- The state allows the event, if there is one.
abbrev pub IsAllowed : State → Option Event → Type 0
IsAllowed p made = IfSome made (λ event. allowed p event ≡ true)

-- The event has a record, if there is one.
abbrev pub IsRecorded : Option Event → Type 0
IsRecorded made = IfSome made (λ event. IsTrue (is_recorded event))

-- The answer to a start, if its record fits: the ready task with the lowest number, the number of
-- the event, and whether the task's scope is done.
abbrev pub start_asked : State → Result Started Refusal
start_asked p = ok_or (option_and_then (started_of p) (first_ready p.work)) NothingReady
