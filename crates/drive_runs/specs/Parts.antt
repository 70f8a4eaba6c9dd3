-- What a line of the input does, by the part that it is of.
use Rattle.std.specs.Prelude.{◌≡◌, ◌⊎◌, ◌∷◌, ℕ, List, [], true, false, Option}
use Rattle.std.specs.Prelude.{Some, None, Result, Ok, Err, length, map, slice_get}
use Rattle.std.specs.Option.{option_map}
use Rattle.std.specs.Io.KnownBytes.{Appends}
use Rattle.run_model.specs.State.{State}
use Rattle.run_disk.specs.Disk.{DiskState}
use Rattle.book_model.specs.Books.{BookView}
use Rattle.console_lines.specs.declared.faults.RunFault.{RunFault}
use Rattle.console_lines.specs.declared.faults.RunFault.TheVariants as run_fault
use Rattle.plan_lines.specs.declared.answers.AnswerLine.TheVariants as answer
use Rattle.plan_lines.specs.Rounds.{refusal_lines}
use Rattle.plan_lines.specs.Writing.{WritesPrefix}
use Rattle.drive_lines.specs.declared.inputs.NextLine.{NextLine}
use Rattle.drive_lines.specs.declared.inputs.NextLine.TheVariants as found
use Rattle.drive_lines.specs.declared.orders.Order.{Order}
use Rattle.drive_lines.specs.declared.orders.Order.TheVariants as order
use Rattle.drive_lines.specs.declared.reports.Report.{Report}
use Rattle.drive_lines.specs.declared.reports.Report.TheVariants as report
use Rattle.drive_lines.specs.Orders.{order_lines}
use Rattle.drive_nights.specs.Names.{is_short}
use Rattle.drive_nights.specs.Nights.{night_of_store}
use Rattle.drive_parts.specs.declared.lives.LivesDraft.{LivesDraft}
use Rattle.drive_parts.specs.declared.plans.NightPlan.{NightPlan}
use Rattle.drive_parts.specs.declared.plans.PlanDraft.{PlanDraft}
use Rattle.drive_parts.specs.declared.plans.PlanRefusal.{PlanRefusal}
use Rattle.drive_parts.specs.declared.plans.PlanRefusal.TheVariants as refusal
use Rattle.drive_parts.specs.declared.rounds.HeardDraft.{HeardDraft}
use Rattle.drive_parts.specs.declared.rounds.Round.{Round}
use Rattle.drive_parts.specs.Lives.{AreTries}
use Rattle.drive_parts.specs.Plans.{Adds, IsPlanned, IsPlanOf, Refuses}
use Rattle.drive_parts.specs.Rounds.{Hears, IsHeard, IsRoundOf}
use Rattle.drive_runs.specs.declared.answers.Answer.{Answer}
use Rattle.drive_runs.specs.declared.drive_ends.DriveEnd.TheVariants as drive_end
use Rattle.drive_runs.specs.declared.openings.Hindrance.{Hindrance}
use Rattle.drive_runs.specs.declared.parts.Next.{Next}
use Rattle.drive_runs.specs.declared.parts.Next.TheVariants as next
use Rattle.drive_runs.specs.declared.parts.Part.{Part}
use Rattle.drive_runs.specs.declared.parts.Part.TheVariants as part
use Rattle.drive_runs.specs.declared.round_parts.RoundKind.{RoundKind}
use Rattle.drive_runs.specs.declared.round_parts.RoundKind.TheVariants as kind
use Rattle.drive_runs.specs.declared.sittings.Kept.{Kept}
use Rattle.drive_runs.specs.declared.sittings.Sitting.{Sitting}
use Rattle.drive_runs.specs.Answers.{Hinders, IsSilent, PlaysGrown, Says, end_line}
use Rattle.drive_runs.specs.Nights.{is_other}
use Rattle.drive_runs.specs.Opens.{Opens}
use Rattle.drive_runs.specs.Sittings.{IsFirstOf, IsSamePlan}

-- ---- a line that isn't the end of a part

-- The line of this number can't be taken. The answer says so, and the run ends with that.
abbrev pub Rejects : (number : ℕ) → Answer → Type 0
Rejects number it = Says (order.Answer (answer.Bad number)) (next.End (drive_end.Bad number)) it

-- The draft of a round has one more line, or the line can't come next.
abbrev pub HearsIn : (HeardDraft → Part) → HeardDraft → Report → Option Part → Type 0
HearsIn in_part draft r more =
    (drafts : Option HeardDraft) × (more ≡ option_map in_part drafts)
    × ((plan : NightPlan) (tasks : List ℕ) (reports : List Report)
    → IsHeard plan tasks reports draft → Hears plan tasks reports r drafts)

-- The part has one more line, or the line can't come next.
abbrev pub Gains : Part → Report → Option Part → Type 0
Gains (part.Plan draft) r more =
    (drafts : Option PlanDraft) × (more ≡ option_map part.Plan drafts)
    × ((reports : List Report) → IsPlanned reports draft → Adds reports r drafts)
Gains (part.Round kept draft) r more = HearsIn (part.Round kept) draft r more
Gains (part.First kept lives draft) (report.Lives named) more = Unit {0}
Gains (part.First kept lives draft) r more = HearsIn (part.First kept lives) draft r more

-- A line that was added isn't answered. One that can't come next is bad.
abbrev pub AnswersMore : (number : ℕ) → Option Part → Answer → Type 0
AnswersMore number (Some it) answer = IsSilent (next.Part it) answer
AnswersMore number None answer = Rejects number answer

-- ---- the end of a plan

-- The lines that say why a plan is refused.
abbrev pub refused_lines : PlanRefusal → List Order
refused_lines (refusal.Name g) = order.Name g ∷ end_line ∷ []
refused_lines (refusal.Twice c) = order.Twice c ∷ end_line ∷ []
refused_lines (refusal.Fault why) = map order.Answer (refusal_lines why)

-- The plan is refused for its lines, and the run ends with that.
pub record RefusesPlan (draft : PlanDraft) (it : Answer) : Type 0 where
  pub refused : PlanRefusal
  pub why : (reports : List Report) → IsPlanned reports draft → Refuses reports refused
  pub lines : it.lines.items ≡ refused_lines refused
  pub ends : it.next ≡ next.End drive_end.Refused

-- The name of this group leaves no room for the number of the night.
abbrev pub IsLong : (night : ℕ) → (groups : List (List ℕ)) → (group : ℕ) → Type 0
IsLong night groups group =
    (name : List ℕ) × (slice_get groups group ≡ Some name) × (is_short name night ≡ false)

-- The store can't have a night of this plan: it has a task of another job, or the name of a group
-- is too long. The line says so.
abbrev pub IsNotOfStore : State → NightPlan → Order → Type 0
IsNotOfStore p plan line =
    ((task : ℕ) × (is_other p task ≡ true) × (line ≡ order.Other task))
    ⊎ ((group : ℕ) × IsLong (night_of_store p plan.next) plan.groups.items group
    × (line ≡ order.Name group))

-- The answer says so, and the run ends with that.
pub record RefusesNight (p : State) (plan : NightPlan) (it : Answer) : Type 0 where
  pub line : Order
  pub why : IsNotOfStore p plan line
  pub says : Says line (next.End drive_end.Refused) it

-- The night of the plan goes on or begins, and the first round of the run is read. The answer says
-- how many commands there are, and which night it is. Of the night is known what this sitting
-- knows.
pub record OpensNight (plan : NightPlan) (night : ℕ) (s : Sitting) (it : Answer) : Type 0 where
  pub lines : it.lines.items ≡ order.Answer (answer.Plan (length plan.plan.commands.items))
      ∷ order.Night night ∷ end_line ∷ []
  pub rounds : NightPlan
  pub same : IsSamePlan plan rounds
  pub lives : LivesDraft
  pub none : AreTries [] lives
  pub heard : HeardDraft
  pub nothing : IsHeard rounds [] [] heard
  pub goes_on : it.next ≡ next.Part (part.First s.kept lives heard)

-- What is answered to a plan whose night was opened with this sitting, by what hinders the night.
abbrev pub AnswersOpening : NightPlan → (night : ℕ) → Sitting → Option Hindrance → Answer → Type 0
AnswersOpening plan night s None it = OpensNight plan night s it
AnswersOpening plan night s (Some what) it = Hinders what it

-- The night of a plan was opened, of which nothing is known but the plan, and this is answered.
abbrev pub OpensFirst : {D : Type 0} → (D → DiskState) → NightPlan → (night : ℕ)
    → (old : BookView D) → Answer → (new : BookView D) → Type 0
OpensFirst state plan night old it new =
    (s : Sitting) × IsFirstOf plan night old.session.state.tree.clock s
    × (found : Option Hindrance) × Opens state s old found new
    × AnswersOpening plan night s found it

-- The answer to a plan that was read. If the store can't have a night of it, the store stays as it
-- is.
abbrev pub TakesPlan : {D : Type 0} → (D → DiskState) → NightPlan → (old : BookView D) → Answer
    → (new : BookView D) → Type 0
TakesPlan state plan old it new =
    (RefusesNight old.session.state plan it × (new ≡ old))
    ⊎ OpensFirst state plan (night_of_store old.session.state plan.next) old it new

-- The answer to the lines of a plan. If they are refused, the store stays as it is.
abbrev pub AnswersPlan : {D : Type 0} → (D → DiskState) → PlanDraft → (old : BookView D) → Answer
    → (new : BookView D) → Type 0
AnswersPlan state draft old it new =
    (RefusesPlan draft it × (new ≡ old))
    ⊎ ((plan : NightPlan) × ((reports : List Report) → IsPlanned reports draft
    → IsPlanOf reports plan) × TakesPlan state plan old it new)

-- ---- the end of a part

-- A round of this kind, of which this was read, is answered so. Whatever lines it was read of, the
-- round is exactly what they come to: the plan as it has grown by them, and what they report.
abbrev pub AnswersDraft : {D : Type 0} → (D → DiskState) → RoundKind → (known : Kept) → HeardDraft
    → (old : BookView D) → Answer → (new : BookView D) → Type 0
AnswersDraft state how known draft old it new =
    (round : Round) × ((plan : NightPlan) (tasks : List ℕ) (reports : List Report)
    → IsHeard plan tasks reports draft → IsRoundOf plan reports round)
    × PlaysGrown state how known round old it new

-- A part is answered so.
abbrev pub AnswersPart : {D : Type 0} → (D → DiskState) → Part → (old : BookView D) → Answer
    → (new : BookView D) → Type 0
AnswersPart state (part.Plan draft) old it new =
    AnswersPlan state draft old it new
AnswersPart state (part.First kept lives draft) old it new =
    AnswersDraft state kind.First kept draft old it new
AnswersPart state (part.Round kept draft) old it new =
    AnswersDraft state kind.Later kept draft old it new

-- This is answered if this comes next in the input, in the line of this number.
abbrev pub AnswersLine : {D : Type 0} → (D → DiskState) → Part → NextLine → (number : ℕ)
    → (old : BookView D) → Answer → (new : BookView D) → Type 0
AnswersLine state it found.InputEnded number old answer new =
    IsSilent (next.End drive_end.InputEnded) answer
AnswersLine state it found.Bad number old answer new = Rejects number answer
AnswersLine state it (found.Report r) number old answer new =
    (more : Option Part) × Gains it r more × AnswersMore number more answer
AnswersLine state it found.PartEnded number old answer new =
    AnswersPart state it old answer new

-- The book stays as it is, unless a part has ended.
abbrev pub LeavesAlone : {D : Type 0} → NextLine → (old new : BookView D) → Type 0
LeavesAlone found.PartEnded old new = Unit {0}
LeavesAlone _ old new = new ≡ old

-- ---- what is written of an answer

-- The lines of an answer were written, and the run goes on as it says. If the output failed, only a
-- prefix of them was written.
abbrev pub Gives : Answer → (w0 w1 : Option (List ℕ)) → Result Next RunFault → Type 0
Gives it w0 w1 (Ok to) = Appends w0 w1 (order_lines it.lines.items) × (to ≡ it.next)
Gives it w0 w1 (Err why) =
    WritesPrefix w0 w1 (order_lines it.lines.items) × (why ≡ run_fault.Output)

-- A line of the input was taken, and what is answered then was given. If memory was refused,
-- nothing was.
abbrev pub TakesLine : {D : Type 0} → (D → DiskState) → Part → NextLine → (number : ℕ)
    → (old new : BookView D) → (w0 w1 : Option (List ℕ)) → Result Next RunFault → Type 0
TakesLine state it found number old new w0 w1 result =
    ((answer : Answer) × AnswersLine state it found number old answer new
    × Gives answer w0 w1 result)
    ⊎ ((result ≡ Err run_fault.Memory) × (w1 ≡ w0))
