-- The effect on a night of the steps in which commands begin, and which begins may be reported.
use Rattle.std.specs.Prelude.{◌≡◌, ◌<◌, ◌==◌, ◌+◌, ℕ, true, false, List, Some, All, Contains}
use Rattle.std.specs.Prelude.{length, map, slice_get}
use Rattle.run_model.specs.Event as event
use Rattle.run_model.specs.Rules.{IsConsistent}
use Rattle.run_model.specs.Session.{Session, acknowledged, replies, session_after}
use Rattle.run_model.specs.State.{State}
use Rattle.run_model.specs.Tasks.{has_stage, is_fresh, is_running}
use Rattle.night_plan.specs.declared.commands.Command.{Command}
use Rattle.night_plan.specs.declared.commands.Plan.{Plan}
use Rattle.night_plan.specs.Turns.{after as after_turn, Begin}
use Rattle.night_drive.specs.declared.ends.Ends.{Ends}
use Rattle.night_drive.specs.declared.names.Names.{Names}
use Rattle.night_drive.specs.Distinct.{AreDistinct}
use Rattle.night_drive.specs.PlanTurns.{IsOfCommand, night_in}
use Rattle.night_drive.specs.Seen.{AreNames, IsCalled}
use Rattle.night_drive.specs.Turns.{is_task}
use Rattle.drive_steps.specs.declared.reported.Begun.{Begun}
use Rattle.drive_steps.specs.Rooms.{are_housed}
use Rattle.drive_steps.specs.Starts.{row_of}
use Rattle.drive_steps.specs.Reported.{begins_reported}

-- A plan and its names fit a state between two rounds: each command has a name of its own and a
-- group of the store, and no task is waiting to be started.
pub record IsAtRest (p : State) (plan : Plan) (names : Names) : Type 0 where
  pub named : AreNames plan names
  pub distinct : AreDistinct plan names
  pub housed : are_housed p names ≡ true
  pub consistent : IsConsistent p
  pub none_fresh : (n : ℕ) → has_stage is_fresh p.work n ≡ false

-- These commands begin in a session at rest, and by the replies these begins are reported.
pub record Reports (s : Session) (plan : Plan) (names : Names) (chosen : List ℕ)
    (begun : List Begun) : Type 0 where
  pub rest : IsAtRest s.state plan names
  pub within : All (λ c. c < length plan.commands.items) chosen
  pub reported : begins_reported chosen
      (replies s (row_of s.state names plan.commands.items chosen))
      ≡ Some begun

-- The task of a begin runs, and belongs to the command of the begin and to no other.
pub record IsRight (p : State) (names : Names) (commands : List Command) (begin : Begun)
    : Type 0 where
  pub runs : has_stage is_running p.work begin.task ≡ true
  pub own : (d : ℕ) (command : Command) (group key : List ℕ)
      → IsCalled names commands d command group key
      → is_task p names.night group key begin.task ≡ (begin.command == d)

-- A row is the turn in which all its commands begin, and each begin that is reported is right.
-- After it the state is again one between two rounds.
pub record IsBegun (s : Session) (plan : Plan) (names : Names) (chosen : List ℕ)
    (begun : List Begun) : Type 0 where
  pub commands : map (λ begin. begin.command) begun ≡ chosen
  pub turn : (ends : Ends) (now : ℕ) (sizes : List ℕ)
      → night_in (session_after s (row_of s.state names plan.commands.items chosen)).state ends plan
      names
      ≡ after_turn (night_in s.state ends plan names) (Begin now sizes chosen)
  pub rest : IsAtRest (session_after s (row_of s.state names plan.commands.items chosen)).state plan
      names
  pub right : All (IsRight (session_after s
      (row_of s.state names plan.commands.items chosen)).state names plan.commands.items) begun

abbrev pub RowsBeginAll : Type 0
RowsBeginAll =
    (s : Session) (plan : Plan) (names : Names) (chosen : List ℕ) (begun : List Begun)
    → Reports s plan names chosen begun → IsBegun s plan names chosen begun

-- What is reported is acknowledged: the start of each task that is reported.
abbrev pub ReportsAcknowledged : Type 0
ReportsAcknowledged =
    (s : Session) (plan : Plan) (names : Names) (chosen : List ℕ) (begun : List Begun)
    → Reports s plan names chosen begun
    → All (λ (begin : Begun). Contains (acknowledged s
    (row_of s.state names plan.commands.items chosen)
    (replies s (row_of s.state names plan.commands.items chosen))) (event.Start begin.task)) begun

-- The tasks that are reported are new ones, in ascending order.
abbrev pub TasksAreReportedOnce : Type 0
TasksAreReportedOnce =
    (s : Session) (plan : Plan) (names : Names) (chosen : List ℕ) (begun : List Begun)
    → Reports s plan names chosen begun → (i : ℕ) (begin : Begun)
    → slice_get begun i ≡ Some begin → begin.task ≡ length s.state.work.tasks + i

-- No command is chosen twice.
abbrev pub AreDifferent : List ℕ → Type 0
AreDifferent chosen =
    (i j c : ℕ) → slice_get chosen i ≡ Some c → slice_get chosen j ≡ Some c → i ≡ j

-- Each task that is reported is the last try of its command, so its end can be recorded.
abbrev pub ReportsLastTries : Type 0
ReportsLastTries =
    (s : Session) (plan : Plan) (names : Names) (chosen : List ℕ) (begun : List Begun)
    → Reports s plan names chosen begun → AreDifferent chosen
    → All (λ (begin : Begun). IsOfCommand
    (session_after s (row_of s.state names plan.commands.items chosen)).state names
    plan.commands.items begin.task begin.command) begun
