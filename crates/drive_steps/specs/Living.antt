-- The tries that live between two rounds of a night.
use Rattle.std.specs.Prelude.{◌≡◌, ◌<◌, ◌++◌, ℕ, not, true, List, Some, None, All, Contains}
use Rattle.std.specs.Prelude.{filter, length, slice_get}
use Rattle.run_model.specs.State.{State}
use Rattle.run_model.specs.Step.{own_scope}
use Rattle.run_model.specs.Tasks.{has_stage, is_running}
use Rattle.run_model.specs.WorkChanges.{stage_of}
use Rattle.night_plan.specs.declared.commands.Command.{Command}
use Rattle.night_plan.specs.declared.commands.Plan.{Plan}
use Rattle.night_drive.specs.declared.names.Names.{Names}
use Rattle.night_drive.specs.PlanTurns.{IsOfCommand}
use Rattle.night_drive.specs.Seen.{IsCalled, is_owned}
use Rattle.night_drive.specs.Tries.{counts}
use Rattle.night_drive.specs.Turns.{is_task}
use Rattle.drive_steps.specs.declared.heard.Ended.{Ended}
use Rattle.drive_steps.specs.declared.reported.Begun.{Begun}
use Rattle.drive_steps.specs.Heard.{AreEnds, has_ended}
use Rattle.drive_steps.specs.Rows.{IsAtRest}

-- Each group of the store that belongs to a group of the plan, in this night, is bare.
abbrev pub AreBareRooms : State → Names → Type 0
AreBareRooms p names =
    (g h : ℕ) (group : List ℕ) → slice_get names.groups.items g ≡ Some group
    → is_owned p names.night group h ≡ true → own_scope p.work h ≡ None

-- A try lives: its task runs, and is the last try of its command and of no other one.
pub record IsLiving (p : State) (names : Names) (commands : List Command) (try : Begun)
    : Type 0 where
  pub within : try.command < length commands
  pub runs : has_stage is_running p.work try.task ≡ true
  pub of : IsOfCommand p names commands try.task try.command

-- These tries live, and no other task of a command of the plan runs.
pub record AreLiving (p : State) (names : Names) (commands : List Command) (living : List Begun)
    : Type 0 where
  pub each : All (IsLiving p names commands) living
  pub every : (c n : ℕ) (command : Command) (group key : List ℕ)
      → IsCalled names commands c command group key
      → is_task p names.night group key n ≡ true → has_stage is_running p.work n ≡ true
      → Contains living (record { command = c; task = n })

-- Between two rounds these tries live, and the state is at rest.
pub record IsBetween (p : State) (plan : Plan) (names : Names) (living : List Begun)
    : Type 0 where
  pub rest : IsAtRest p plan names
  pub bare : AreBareRooms p names
  pub lives : AreLiving p names plan.commands.items living

-- Each of these ends is that of a living try of the command that is paired with it. No try ends
-- twice, and none is withdrawn.
pub record AreTheirs (living : List Begun) (row : List (Ended × ℕ)) : Type 0 where
  pub lived : (i : ℕ) (part : Ended × ℕ) → slice_get row i ≡ Some part
      → Contains living (record { command = part.1; task = part.0.task })
  pub counted : (i : ℕ) (part : Ended × ℕ) → slice_get row i ≡ Some part
      → counts (stage_of part.0.outcome) ≡ true
  pub once : (i j : ℕ) (a b : Ended × ℕ) → slice_get row i ≡ Some a → slice_get row j ≡ Some b
      → a.0.task ≡ b.0.task → i ≡ j

-- The living tries after a round: those before it that haven't ended, and those that have begun.
abbrev pub living_after : List Begun → List Ended → List Begun → List Begun
living_after living heard begun =
    filter (λ (try : Begun). not (has_ended heard try.task)) living ++ begun

-- So the ends of living tries are what the laws of a round ask for.
abbrev pub TheirEndsAreEnds : Type 0
TheirEndsAreEnds =
    (p : State) (plan : Plan) (names : Names) (living : List Begun) (row : List (Ended × ℕ))
    → IsBetween p plan names living → AreTheirs living row
    → AreEnds p names plan.commands.items row
