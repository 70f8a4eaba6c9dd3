-- Many rounds of a night, one after another.
use Rattle.std.specs.Prelude.{◌≡◌, ◌++◌, ℕ, List, [], ◌∷◌, Some, slice_get}
use Rattle.run_model.specs.declared.commands.Step.{Step}
use Rattle.run_model.specs.Session.{Session, session_after}
use Rattle.night_plan.specs.declared.commands.Plan.{Plan}
use Rattle.night_plan.specs.Sessions.{after_all}
use Rattle.night_plan.specs.Turns.{Turn, Lead}
use Rattle.night_drive.specs.declared.ends.Ends.{Ends}
use Rattle.night_drive.specs.declared.names.Names.{Names}
use Rattle.night_drive.specs.PlanTurns.{night_in}
use Rattle.drive_steps.specs.declared.cancels.CommandCancel.{CommandCancel}
use Rattle.drive_steps.specs.declared.reported.Begun.{Begun}
use Rattle.drive_steps.specs.Living.{IsBetween}
use Rattle.drive_steps.specs.Rounds.{AcknowledgeAll, MayCome, Round, after_round, living_then}
use Rattle.drive_steps.specs.Rounds.{round_of, round_turns}

-- These rounds come, one after another.
abbrev pub AreRounds : Session → Ends → Plan → Names → List Begun → List Round → Type 0
AreRounds s ends plan names living [] = Unit {0}
AreRounds s ends plan names living (r ∷ rounds) =
    MayCome s ends plan names living r
    × AreRounds (after_round s plan names r) r.ends plan names
    (living_then living r) rounds

-- The steps of all rounds.
abbrev pub all_steps : Session → Plan → Names → List Round → List Step
all_steps s plan names [] = []
all_steps s plan names (r ∷ rounds) =
    round_of s plan names r ++ all_steps (after_round s plan names r) plan names rounds

-- The begins that are reported in them.
abbrev pub all_begun : List Round → List Begun
all_begun [] = []
all_begun (r ∷ rounds) = r.begun ++ all_begun rounds

-- The tries that live after them.
abbrev pub all_living : List Begun → List Round → List Begun
all_living living [] = living
all_living living (r ∷ rounds) = all_living (living_then living r) rounds

-- What is known after them of when tries ended.
abbrev pub all_ends : Ends → List Round → Ends
all_ends ends [] = ends
all_ends ends (r ∷ rounds) = all_ends r.ends rounds

-- The turns of all rounds.
abbrev pub all_turns : Session → Plan → Names → List Round → List Turn
all_turns s plan names [] = []
all_turns s plan names (r ∷ rounds) =
    round_turns s plan names r ++ all_turns (after_round s plan names r) plan names rounds

-- After any rounds these tries live.
abbrev pub ManyRoundsKeepTheLiving : Type 0
ManyRoundsKeepTheLiving =
    (s : Session) (ends : Ends) (plan : Plan) (names : Names) (living : List Begun)
    (rounds : List Round)
    → IsBetween s.state plan names living → AreRounds s ends plan names living rounds
    → IsBetween (session_after s (all_steps s plan names rounds)).state plan names
    (all_living living rounds)

-- No task is reported twice.
abbrev pub NoTaskIsReportedTwice : Type 0
NoTaskIsReportedTwice =
    (s : Session) (ends : Ends) (plan : Plan) (names : Names) (living : List Begun)
    (rounds : List Round) (i j : ℕ) (a b : Begun)
    → IsBetween s.state plan names living → AreRounds s ends plan names living rounds
    → slice_get (all_begun rounds) i ≡ Some a → slice_get (all_begun rounds) j ≡ Some b
    → a.task ≡ b.task → i ≡ j

-- A begin is reported at the end of its round. By then all steps of the rounds so far are
-- acknowledged, with the start of its task and with what was recorded of that round.
abbrev pub ReportsComeAfter : Type 0
ReportsComeAfter =
    (s : Session) (ends : Ends) (plan : Plan) (names : Names) (living : List Begun)
    (earlier : List Round) (r : Round)
    → IsBetween s.state plan names living → AreRounds s ends plan names living (earlier ++ r ∷ [])
    → AcknowledgeAll s (all_steps s plan names (earlier ++ r ∷ [])) r

-- After the rounds the night is the one before them after their turns.
abbrev pub RoundsFollow : Type 0
RoundsFollow =
    (s : Session) (ends : Ends) (plan : Plan) (names : Names) (living : List Begun)
    (rounds : List Round)
    → IsBetween s.state plan names living → AreRounds s ends plan names living rounds
    → night_in (session_after s (all_steps s plan names rounds)).state (all_ends ends rounds) plan
    names
    ≡ after_all (night_in s.state ends plan names) (all_turns s plan names rounds)

-- The cancels of commands that are recorded in rounds.
abbrev pub all_cancels : List Round → List CommandCancel
all_cancels [] = []
all_cancels (r ∷ rounds) = r.heard.cancels ++ all_cancels rounds

-- If no command was canceled while it didn't run, the turns of the rounds lead from the night
-- before them to the night after them. So the laws of `night_plan` about turns are laws about
-- rounds.
abbrev pub RoundsLead : Type 0
RoundsLead =
    (s : Session) (ends : Ends) (plan : Plan) (names : Names) (living : List Begun)
    (rounds : List Round)
    → IsBetween s.state plan names living → AreRounds s ends plan names living rounds
    → all_cancels rounds ≡ []
    → Lead (night_in s.state ends plan names) (all_turns s plan names rounds)
    (night_in (session_after s (all_steps s plan names rounds)).state (all_ends ends rounds) plan
    names)
