-- A round: what was heard is recorded, and then commands begin.
use Rattle.std.specs.Prelude.{◌≡◌, ◌<◌, ◌++◌, ◌+◌, ℕ, Bool, true, if◌then◌else◌, List, [], ◌∷◌}
use Rattle.std.specs.Prelude.{Some}
use Rattle.std.specs.Prelude.{Contains, drop, length, map, slice_get}
use Rattle.std.specs.List.{list_any}
use Rattle.run_model.specs.declared.commands.Command.TheVariants as call
use Rattle.run_model.specs.declared.commands.Step.{Step}
use Rattle.run_model.specs.declared.commands.Step.TheVariants as step
use Rattle.run_model.specs.declared.tasks.Outcome.TheVariants as outcome
use Rattle.run_model.specs.Event.{Event}
use Rattle.run_model.specs.Event as event
use Rattle.run_model.specs.Session.{Session, acknowledged, is_ack, replies, session_after}
use Rattle.run_model.specs.Session.{up_to_last_ack}
use Rattle.run_model.specs.State.{State}
use Rattle.night_plan.specs.Choices.{IsChosen}
use Rattle.night_plan.specs.declared.commands.Command.{Command}
use Rattle.night_plan.specs.declared.commands.Plan.{Plan}
use Rattle.night_plan.specs.Sessions.{after_all}
use Rattle.night_plan.specs.Turns.{Turn, Begin, Cut, Stop}
use Rattle.night_drive.specs.declared.ends.Ends.{Ends}
use Rattle.night_drive.specs.declared.names.Names.{Names}
use Rattle.night_drive.specs.PlanTurns.{night_in}
use Rattle.drive_steps.specs.declared.cancels.CommandCancel.{CommandCancel}
use Rattle.drive_steps.specs.declared.cancels.GroupCancel.{GroupCancel}
use Rattle.drive_steps.specs.declared.heard.Ended.{Ended}
use Rattle.drive_steps.specs.declared.reported.Begun.{Begun}
use Rattle.drive_steps.specs.Cancels.{are_started, can_cancel, canceled_text, cuts_of}
use Rattle.drive_steps.specs.Cancels.{stops_of}
use Rattle.drive_steps.specs.Heard.{AreNoted, finishes_of, turns_of}
use Rattle.drive_steps.specs.Living.{AreTheirs, IsBetween, living_after}
use Rattle.drive_steps.specs.Reported.{begins_reported}
use Rattle.drive_steps.specs.Starts.{row_of}

-- What is heard in a round: the ends, each with its command; the cancels of commands that don't
-- run; the cancels of groups; and the moment.
pub record Heard : Type 0 where
  pub ends : List (Ended × ℕ)
  pub cancels : List CommandCancel
  pub groups : List GroupCancel
  pub now : ℕ

-- The ends that were heard, without their commands.
abbrev pub ends_in : Heard → List Ended
ends_in h = map (λ part. part.0) h.ends

-- The steps that record these ends, these cancels of commands and of groups, and the moment.
abbrev pub record_of : State → Names → List Command → List Ended → List CommandCancel
    → List GroupCancel → (now : ℕ) → List Step
record_of p names commands ends cancels groups now =
    finishes_of ends
    ++ (cuts_of p names commands (length p.work.tasks) cancels
    ++ (stops_of p names groups ++ step.Command (call.Advance now) ∷ []))

abbrev pub record_in : State → Plan → Names → Heard → List Step
record_in p plan names h =
    record_of p names plan.commands.items (ends_in h) h.cancels h.groups h.now

-- The session after what was heard was recorded.
abbrev pub recorded : Session → Plan → Names → Heard → Session
recorded s plan names h = session_after s (record_in s.state plan names h)

-- A round: what was heard, what is known from then on of when tries ended, the sizes of the pools,
-- the commands that were chosen, and the begins that are reported.
pub record Round : Type 0 where
  pub heard : Heard
  pub ends : Ends
  pub sizes : List ℕ
  pub chosen : List ℕ
  pub begun : List Begun

-- The session when commands are chosen.
abbrev pub at_choice : Session → Plan → Names → Round → Session
at_choice s plan names r = recorded s plan names r.heard

-- All steps of a round, and the session after them.
abbrev pub round_of : Session → Plan → Names → Round → List Step
round_of s plan names r =
    record_in s.state plan names r.heard
    ++ row_of (at_choice s plan names r).state names plan.commands.items r.chosen

abbrev pub after_round : Session → Plan → Names → Round → Session
after_round s plan names r = session_after s (round_of s plan names r)

-- Each of these commands is canceled once, and can be. Their tasks were submitted and started, by
-- the replies to what was recorded.
pub record AreCanceled (s : Session) (plan : Plan) (names : Names) (h : Heard) : Type 0 where
  pub each : (i : ℕ) (cancel : CommandCancel) → slice_get h.cancels i ≡ Some cancel
      → (cancel.command < length plan.commands.items)
      × (can_cancel s.state names plan.commands.items (ends_in h) cancel.command ≡ true)
  pub once : (i j : ℕ) (a b : CommandCancel) → slice_get h.cancels i ≡ Some a
      → slice_get h.cancels j ≡ Some b → a.command ≡ b.command → i ≡ j
  pub started : are_started h.cancels
      (drop (length h.ends) (replies s (record_in s.state plan names h))) ≡ true

-- Commands are chosen by what is known then, and these begins are reported.
pub record IsBegunByChoice (s : Session) (ends : Ends) (plan : Plan) (names : Names)
    (sizes chosen : List ℕ) (begun : List Begun) : Type 0 where
  pub choice : IsChosen (night_in s.state ends plan names) s.state.tree.clock sizes chosen
  pub reported : begins_reported chosen
      (replies s (row_of s.state names plan.commands.items chosen)) ≡ Some begun

-- The round may come: the ends are those of living tries, what is canceled can be, and what begins
-- was chosen.
pub record MayCome (s : Session) (old : Ends) (plan : Plan) (names : Names)
    (living : List Begun) (r : Round) : Type 0 where
  pub theirs : AreTheirs living r.heard.ends
  pub noted : AreNoted old r.ends (ends_in r.heard) r.heard.now
  pub canceled : AreCanceled s plan names r.heard
  pub begun : IsBegunByChoice (at_choice s plan names r) r.ends plan names r.sizes r.chosen r.begun

-- The tries that live after a round.
abbrev pub living_then : List Begun → Round → List Begun
living_then living r = living_after living (ends_in r.heard) r.begun

-- After a round those tries live that lived before it and haven't ended, and those that have begun.
abbrev pub RoundsKeepTheLiving : Type 0
RoundsKeepTheLiving =
    (s : Session) (old : Ends) (plan : Plan) (names : Names) (living : List Begun) (r : Round)
    → IsBetween s.state plan names living → MayCome s old plan names living r
    → IsBetween (after_round s plan names r).state plan names (living_then living r)

-- ---- turns

-- The numbers of the groups that are done, where the first one has this number.
abbrev pub done_from : (first : ℕ) → List Bool → List ℕ
done_from i [] = []
done_from i (b ∷ done) =
    if b then i ∷ done_from (i + 1) done else done_from (i + 1) done

-- The turns of what was recorded: those of the ends, one for each canceled command, and then one
-- for each group that is done after it. (The last ones change only groups that weren't done
-- before.)
abbrev pub record_turns : Session → Plan → Names → Round → List Turn
record_turns s plan names r =
    turns_of r.heard.now r.heard.ends
    ++ (map (λ (cancel : CommandCancel). Cut cancel.command) r.heard.cancels
    ++ map Stop (done_from 0 (night_in (at_choice s plan names r).state r.ends plan names).done))

-- The turns of a round: those of what was recorded, and the one in which the chosen commands begin,
-- by the clock of the store.
abbrev pub round_turns : Session → Plan → Names → Round → List Turn
round_turns s plan names r =
    record_turns s plan names r
    ++ Begin (at_choice s plan names r).state.tree.clock r.sizes r.chosen ∷ []

-- A round is these turns, and leaves nothing else changed about the night.
abbrev pub RoundsAreTurns : Type 0
RoundsAreTurns =
    (s : Session) (old : Ends) (plan : Plan) (names : Names) (living : List Begun) (r : Round)
    → IsBetween s.state plan names living → MayCome s old plan names living r
    → night_in (after_round s plan names r).state r.ends plan names
    ≡ after_all (night_in s.state old plan names) (round_turns s plan names r)

-- ---- one flush

-- The reply to the last of these steps acknowledges all of them, and each event to which they led.
pub record AreAcked (s : Session) (steps : List Step) : Type 0 where
  pub any : list_any is_ack (replies s steps) ≡ true
  pub whole : up_to_last_ack steps (replies s steps) ≡ steps

-- The replies to these steps acknowledge this event.
abbrev pub Acknowledges : Session → List Step → Event → Type 0
Acknowledges s steps e = Contains (acknowledged s steps (replies s steps)) e

-- These steps are all acknowledged, so that the cancels of groups and the time are, too. Among the
-- events are each end of a round, the end of a task for each cancel of a command, and each start.
pub record AcknowledgeAll (s : Session) (steps : List Step) (r : Round) : Type 0 where
  pub whole : AreAcked s steps
  pub ends : (i : ℕ) (part : Ended × ℕ) → slice_get r.heard.ends i ≡ Some part
      → Acknowledges s steps (event.Finish part.0.task part.0.outcome)
  pub cancels : (i : ℕ) (cancel : CommandCancel) → slice_get r.heard.cancels i ≡ Some cancel
      → (n : ℕ) × Acknowledges s steps
      (event.Finish n (outcome.Failure (canceled_text cancel.why)))
  pub starts : (i : ℕ) (begin : Begun) → slice_get r.begun i ≡ Some begin
      → Acknowledges s steps (event.Start begin.task)

-- One flush acknowledges a whole round: the one at its end.
abbrev pub RoundsAreAcknowledged : Type 0
RoundsAreAcknowledged =
    (s : Session) (old : Ends) (plan : Plan) (names : Names) (living : List Begun) (r : Round)
    → IsBetween s.state plan names living → MayCome s old plan names living r
    → AcknowledgeAll s (round_of s plan names r) r
