-- The steps that record what was heard in a round, and what they do to a night.
use Rattle.std.specs.Prelude.{◌≡◌, ◌≢◌, ◌⊎◌, ℕ, ◌==◌, Bool, true, false, List, [], ◌∷◌}
use Rattle.std.specs.Prelude.{Some, None}
use Rattle.std.specs.Prelude.{map}
use Rattle.std.specs.List.{list_any}
use Rattle.run_model.specs.declared.commands.Command.TheVariants as call
use Rattle.run_model.specs.declared.commands.Step.{Step}
use Rattle.run_model.specs.declared.commands.Step.TheVariants as step
use Rattle.run_model.specs.Event as event
use Rattle.run_model.specs.Rules.{AreNumbered}
use Rattle.run_model.specs.Session.{Session, after_step, event_of_step, session_after}
use Rattle.run_model.specs.State.{State}
use Rattle.run_model.specs.Step as change
use Rattle.run_model.specs.Step.{own_scope}
use Rattle.run_model.specs.Tasks.{has_stage, is_running}
use Rattle.run_model.specs.WorkChanges.{group_of_task, stage_of}
use Rattle.night_plan.specs.declared.commands.Command.{Command}
use Rattle.night_plan.specs.declared.commands.Plan.{Plan}
use Rattle.night_plan.specs.Sessions.{after_all}
use Rattle.night_plan.specs.Turns.{Turn, Stop}
use Rattle.night_drive.specs.declared.ends.Ends.{Ends}
use Rattle.night_drive.specs.declared.names.Names.{Names}
use Rattle.night_drive.specs.PlanTurns.{AreThose, IsOfCommand, night_in}
use Rattle.night_drive.specs.Seen.{AreNames, moment_of}
use Rattle.night_drive.specs.Tries.{counts}
use Rattle.night_drive.specs.Turns.{end_of, has_come}
use Rattle.drive_steps.specs.declared.heard.Ended.{Ended}

-- A finish for each end.
abbrev pub finishes_of : List Ended → List Step
finishes_of [] = []
finishes_of (end ∷ heard) = step.Finish end.task end.outcome ∷ finishes_of heard

-- The end is that of a try of command c, which runs and is the last one. Its group is bare.
pub record IsEnd (p : State) (names : Names) (commands : List Command) (end : Ended) (c : ℕ)
    : Type 0 where
  pub runs : has_stage is_running p.work end.task ≡ true
  pub counted : counts (stage_of end.outcome) ≡ true
  pub bare : own_scope p.work (group_of_task p.work end.task) ≡ None
  pub of : IsOfCommand p names commands end.task c

-- Each end is that of a try of the command that is paired with it.
abbrev pub AreEnds : State → Names → List Command → List (Ended × ℕ) → Type 0
AreEnds p names commands [] = Unit {0}
AreEnds p names commands ((end, c) ∷ row) =
    IsEnd p names commands end c
    × AreEnds (change.step p (event.Finish end.task end.outcome)) names commands row

-- The turns of these ends, at this moment.
abbrev pub turns_of : (now : ℕ) → List (Ended × ℕ) → List Turn
turns_of now [] = []
turns_of now ((end, c) ∷ row) = end_of c now end.outcome ∷ turns_of now row

-- The task is one of those that ended.
abbrev pub has_ended : List Ended → ℕ → Bool
has_ended heard n = list_any (λ (end : Ended). end.task == n) heard

-- Of this task it is known that it ended at this moment. Of all others the same is known as before.
pub record IsNoted (old new : Ends) (task now : ℕ) : Type 0 where
  pub own : moment_of new task ≡ now
  pub others : (n : ℕ) → n ≢ task → moment_of new n ≡ moment_of old n

-- Of each task the same is known as before.
abbrev pub AreSame : Ends → Ends → Type 0
AreSame old new = (n : ℕ) → moment_of new n ≡ moment_of old n

-- Of the tasks that ended it is known that they ended at this moment. Of all others the same is
-- known as before.
pub record AreNoted (old new : Ends) (heard : List Ended) (now : ℕ) : Type 0 where
  pub own : (n : ℕ) → has_ended heard n ≡ true → moment_of new n ≡ now
  pub others : (n : ℕ) → has_ended heard n ≡ false → moment_of new n ≡ moment_of old n

-- The finishes of these ends are recorded as their turns.
abbrev pub EndsAreTurns : Type 0
EndsAreTurns =
    (s : Session) (old new : Ends) (plan : Plan) (names : Names) (row : List (Ended × ℕ)) (now : ℕ)
    → AreNames plan names → AreEnds s.state names plan.commands.items row
    → AreNoted old new (map (λ part. part.0) row) now
    → night_in (session_after s (finishes_of (map (λ part. part.0) row))).state new plan names
    ≡ after_all (night_in s.state old plan names) (turns_of now row)

-- The clock moves. These groups have a deadline that has come then.
pub record Moves (s : Session) (names : Names) (now : ℕ) (stopped : List ℕ) : Type 0 where
  pub moves : event_of_step s (step.Command (call.Advance now)) ≡ Some (event.Advance now)
  pub numbered : AreNumbered s.state
  pub those : AreThose s.state names (has_come s.state now) stopped

-- The clock stays where it is, as in a second round within a second. No deadline comes.
pub record Stays (s : Session) (now : ℕ) (stopped : List ℕ) : Type 0 where
  pub stays : event_of_step s (step.Command (call.Advance now)) ≡ None
  pub none : stopped ≡ []

-- The clock moves or stays. The deadlines of these groups come then.
abbrev pub Comes : Session → Names → (now : ℕ) → (stopped : List ℕ) → Type 0
Comes s names now stopped = Moves s names now stopped ⊎ Stays s now stopped

-- The clock is a turn for each group whose deadline comes.
abbrev pub ClocksAreTurns : Type 0
ClocksAreTurns =
    (s : Session) (ends : Ends) (plan : Plan) (names : Names) (now : ℕ) (stopped : List ℕ)
    → AreNames plan names → Comes s names now stopped
    → night_in (after_step s (step.Command (call.Advance now))).state ends plan names
    ≡ after_all (night_in s.state ends plan names) (map Stop stopped)
