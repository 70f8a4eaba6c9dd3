-- What is answered, and how the run goes on after an answer.
use Rattle.std.specs.Prelude.{◌≡◌, ◌⊎◌, ◌++◌, ◌∷◌, ℕ, Bool, true, false, List, [], Option, Some}
use Rattle.std.specs.Prelude.{None, Result, MatchResult, map, max}
use Rattle.std.specs.Io.KnownBytes.{Appends}
use Rattle.run_disk.specs.Disk.{DiskState}
use Rattle.book_model.specs.Books.{BookView}
use Rattle.console_lines.specs.Faults.{stopped}
use Rattle.plan_lines.specs.Writing.{WritesPrefix}
use Rattle.plan_lines.specs.declared.answers.AnswerLine.TheVariants as answer
use Rattle.drive_lines.specs.declared.orders.Order.{Order}
use Rattle.drive_lines.specs.declared.orders.Order.TheVariants as order
use Rattle.drive_parts.specs.declared.heard.Heard.{Heard}
use Rattle.drive_parts.specs.declared.plans.NightPlan.{NightPlan}
use Rattle.drive_parts.specs.declared.rounds.HeardDraft.{HeardDraft}
use Rattle.drive_parts.specs.declared.rounds.Round.{Round}
use Rattle.drive_parts.specs.Rounds.{IsHeard}
use Rattle.drive_steps.specs.Rooms.{are_housed}
use Rattle.drive_runs.specs.declared.answers.Answer.{Answer}
use Rattle.drive_runs.specs.declared.drive_ends.DriveEnd.TheVariants as drive_end
use Rattle.drive_runs.specs.declared.living.Living.{Living}
use Rattle.drive_runs.specs.declared.openings.Hindrance.{Hindrance}
use Rattle.drive_runs.specs.declared.openings.Hindrance.TheVariants as hindrance
use Rattle.drive_runs.specs.declared.parts.Next.{Next}
use Rattle.drive_runs.specs.declared.parts.Next.TheVariants as next
use Rattle.drive_runs.specs.declared.parts.Part.TheVariants as part
use Rattle.drive_runs.specs.declared.rebounds.Bound.{Bound}
use Rattle.drive_runs.specs.declared.rebounds.Bound.TheVariants as bound
use Rattle.drive_runs.specs.declared.records.Recorded.{Recorded}
use Rattle.drive_runs.specs.declared.records.Recorded.TheVariants as recorded
use Rattle.drive_runs.specs.declared.round_parts.Rest.{Rest}
use Rattle.drive_runs.specs.declared.round_parts.RoundKind.{RoundKind}
use Rattle.drive_runs.specs.declared.round_parts.RoundKind.TheVariants as kind
use Rattle.drive_runs.specs.declared.rounds.Course.{Course}
use Rattle.drive_runs.specs.declared.rounds.Course.TheVariants as course
use Rattle.drive_runs.specs.declared.rounds.Orders.{Orders}
use Rattle.drive_runs.specs.declared.sittings.Kept.{Kept}
use Rattle.drive_runs.specs.declared.sittings.Sitting.{Sitting}
use Rattle.drive_runs.specs.Asks.{questions_of}
use Rattle.drive_runs.specs.Closing.{Closes, IsMarked}
use Rattle.drive_runs.specs.Grows.{Grows}
use Rattle.drive_runs.specs.Opens.{Opens}
use Rattle.drive_runs.specs.Rebounds.{BindsAll}
use Rattle.drive_runs.specs.Records.{Records}
use Rattle.drive_runs.specs.Rounds.{GoesOn}
use Rattle.drive_runs.specs.Sittings.{HasPlan, IsSittingOf}

-- ---- what is written

-- This text was written. If the run ends with a fault, perhaps only a prefix of it was.
abbrev pub Writes : {X E : Type 0} → Option (List ℕ) → Option (List ℕ) → Result X E
    → (text : List ℕ) → Type 0
Writes w0 w1 result text =
    MatchResult result (λ _. Appends w0 w1 text) (λ _. WritesPrefix w0 w1 text)

-- ---- short answers

-- The lines of an answer end with the empty line.
abbrev pub end_line : Order
end_line = order.Answer answer.End

-- Nothing is answered, and the run goes on so.
pub record IsSilent (to : Next) (it : Answer) : Type 0 where
  pub lines : it.lines.items ≡ []
  pub goes_on : it.next ≡ to

-- The answer is this line, and the run goes on so.
pub record Says (line : Order) (to : Next) (it : Answer) : Type 0 where
  pub lines : it.lines.items ≡ line ∷ end_line ∷ []
  pub goes_on : it.next ≡ to

-- The line that says what hinders a night, and how the run ends after it.
abbrev pub hindrance_line : Hindrance → Order
hindrance_line hindrance.Full = order.Full
hindrance_line (hindrance.Fault why) = order.Fault why

abbrev pub after_hindrance : Hindrance → Next
after_hindrance hindrance.Full = next.End drive_end.Full
after_hindrance (hindrance.Fault why) = next.Fault (stopped why)

-- The answer says what hinders the night, and nothing else. The run ends with that.
abbrev pub Hinders : Hindrance → Answer → Type 0
Hinders what it = Says (hindrance_line what) (after_hindrance what) it

-- ---- the answer to a round

-- The lines with which the answer to a round ends: all is durable, and perhaps the night is over.
abbrev pub over_lines : (over : Bool) → List Order
over_lines true = order.Over ∷ []
over_lines false = []

abbrev pub closing : (over : Bool) → List Order
closing over = order.Durable ∷ (over_lines over ++ end_line ∷ [])

-- If the night is over, its end was marked after the round, and the mark is acknowledged.
abbrev pub MarksEnd : {D : Type 0} → (D → DiskState) → (night : ℕ) → (over : Bool)
    → (old new : BookView D) → Type 0
MarksEnd state night true old new = IsMarked state night old new
MarksEnd state night false old new = new ≡ old

-- If the night is over, the run ends so. Otherwise the next round is read, of which nothing was
-- heard yet. It has the plan of this one, and all that is remembered after this one.
abbrev pub GoesTo : (over : Bool) → (after : Sitting) → Next → Type 0
GoesTo true after to = to ≡ next.End drive_end.Over
GoesTo false after to =
    (plan : NightPlan) × (draft : HeardDraft) × (to ≡ next.Part (part.Round after.kept draft))
    × HasPlan after plan
    × IsHeard plan (map (λ (one : Living). one.task) after.kept.living.items) [] draft

-- The orders of a round are answered after some other lines. If the night is over, its end was
-- marked before.
pub record IsClosed {D : Type 0} (state : D → DiskState) (after : Sitting) (old : BookView D)
    (lines : List Order) (orders : Orders) (it : Answer) (new : BookView D) : Type 0 where
  pub marks : MarksEnd state after.kept.night orders.is_over old new
  pub all : it.lines.items ≡ lines ++ (orders.lines.items ++ closing orders.is_over)
  pub goes_to : GoesTo orders.is_over after it.next

-- The night is over, but its end couldn't be marked, and this hinders it.
pub record IsUnclosed {D : Type 0} (state : D → DiskState) (after : Sitting) (old : BookView D)
    (orders : Orders) (it : Answer) (new : BookView D) : Type 0 where
  pub what : Hindrance
  pub over : orders.is_over ≡ true
  pub why : Closes state after.kept.night old (Some what) new
  pub says : Hinders what it

-- The orders of a round are answered, unless the night is over and its end can't be marked.
abbrev pub ClosesRound : {D : Type 0} → (D → DiskState) → (after : Sitting) → (old : BookView D)
    → List Order → Orders → Answer → (new : BookView D) → Type 0
ClosesRound state after old lines orders it new =
    IsUnclosed state after old orders it new ⊎ IsClosed state after old lines orders it new

-- ---- a round that is put off

-- The rest of a round is what was heard in it, without the ends, and its time.
pub record IsRest (heard : Heard) (now : ℕ) (rest : Rest) : Type 0 where
  pub cancels : rest.heard.cancels ≡ heard.cancels
  pub done : rest.heard.done ≡ heard.done
  pub asked : questions_of rest.heard ≡ questions_of heard
  pub ends : rest.heard.ends.items ≡ []
  pub gone : rest.heard.gone.items ≡ []
  pub time : rest.now ≡ now

-- Nothing is answered yet, and the store is opened again for the rest of the round. If it was
-- opened again for the round already, it is full.
abbrev pub PutsBack : RoundKind → Sitting → Rest → Answer → Type 0
PutsBack kind.Again sitting rest it = Hinders hindrance.Full it
PutsBack _ sitting rest it = IsSilent (next.Opening sitting rest) it

-- ---- how a round is played

-- What is answered to a round that has gone on so. A fault hinders the night. If a step was
-- refused, the round is put off with what is remembered then. Otherwise the orders are answered
-- after some other lines.
abbrev pub AnswersCourse : {D : Type 0} → (D → DiskState) → RoundKind → (after : Sitting) → Rest
    → (old : BookView D) → List Order → Course → Answer → (new : BookView D) → Type 0
AnswersCourse state how after rest old lines (course.On orders) it new =
    ClosesRound state after old lines orders it new
AnswersCourse state how after rest old lines course.Refused it new =
    PutsBack how after rest it × (new ≡ old)
AnswersCourse state how after rest old lines (course.Faulty fault) it new =
    Hinders (hindrance.Fault fault) it × (new ≡ old)

-- After what was heard is recorded, commands begin, and the round is answered by how that went. If
-- there is a group of the plan for which the store has none, nothing can begin, and the store is
-- full.
abbrev pub EndsRound : {D : Type 0} → (D → DiskState) → RoundKind → (before : Sitting) → Rest
    → (old : BookView D) → List Order → Answer → (new : BookView D) → Type 0
EndsRound state how before rest old lines it new =
    ((are_housed old.session.state before.names ≡ false) × Hinders hindrance.Full it
    × (new ≡ old))
    ⊎ ((course : Course) × (after : Sitting) × (to : BookView _)
    × GoesOn state before (questions_of rest.heard) old course after to
    × AnswersCourse state how after rest to lines course it new)

-- What is answered to a round of which this has become. Only if all of it is recorded, the round
-- goes on. If the store has to be opened again, the round is put off with what is remembered then.
abbrev pub AnswersRecorded : {D : Type 0} → (D → DiskState) → RoundKind → (before : Sitting) → Rest
    → (old : BookView D) → List Order → Recorded → Answer → (new : BookView D) → Type 0
AnswersRecorded state how before rest old lines recorded.Well it new =
    EndsRound state how before rest old lines it new
AnswersRecorded state how before rest old lines recorded.Reopen it new =
    PutsBack how before rest it × (new ≡ old)
AnswersRecorded state how before rest old lines recorded.Full it new =
    Hinders hindrance.Full it × (new ≡ old)
AnswersRecorded state how before rest old lines (recorded.Faulty fault) it new =
    Hinders (hindrance.Fault fault) it × (new ≡ old)

-- What was heard is recorded at this time, and the round is answered by what became of that. These
-- other lines are answered first.
pub record RecordsRound {D : Type 0} (state : D → DiskState) (how : RoundKind) (s : Sitting)
    (heard : Heard) (now : ℕ) (old : BookView D) (lines : List Order) (it : Answer)
    (new : BookView D) : Type 0 where
  pub recorded : Recorded
  pub before : Sitting
  pub between : BookView D
  pub records : Records state s heard now old recorded before between
  pub rest : Rest
  pub left : IsRest heard now rest
  pub answers : AnswersRecorded state how before rest between lines recorded it new

-- The tries that live get tasks, unless they have some of this session.
abbrev pub BindsFirst : {D : Type 0} → (D → DiskState) → RoundKind → (s : Sitting)
    → (old : BookView D) → Bound → (t : Sitting) → (new : BookView D) → Type 0
BindsFirst state kind.First s old it t new = BindsAll state s old it t new
BindsFirst state kind.Later s old (bound.Orders lines) t new =
    (lines.items ≡ []) × (t ≡ s) × (new ≡ old)
BindsFirst state kind.Later s old (bound.Hindered what) t new = ⊥
BindsFirst state kind.Again s old it t new = BindsAll state s old it t new

-- What is answered to a round once its tries have tasks. If they got none, that hinders the night.
abbrev pub AnswersBound : {D : Type 0} → (D → DiskState) → RoundKind → (s : Sitting) → Heard
    → (now : ℕ) → (old : BookView D) → Bound → Answer → (new : BookView D) → Type 0
AnswersBound state how s heard now old (bound.Orders lines) it new =
    RecordsRound state how s heard now old lines.items it new
AnswersBound state how s heard now old (bound.Hindered what) it new =
    Hinders what it × (new ≡ old)

-- A round of this kind is played with this sitting, and answered.
abbrev pub PlaysRound : {D : Type 0} → (D → DiskState) → RoundKind → (s : Sitting) → Heard
    → (now : ℕ) → (old : BookView D) → Answer → (new : BookView D) → Type 0
PlaysRound state how s heard now old it new =
    (tries : Bound) × (t : Sitting) × (between : BookView _)
    × BindsFirst state how s old tries t between
    × AnswersBound state how t heard now between tries it new

-- The same, unless this hinders the night already.
abbrev pub PlaysUnless : {D : Type 0} → (D → DiskState) → Option Hindrance → RoundKind
    → (s : Sitting) → Heard → (now : ℕ) → (old : BookView D) → Answer → (new : BookView D) → Type 0
PlaysUnless state None how s heard now old it new = PlaysRound state how s heard now old it new
PlaysUnless state (Some what) how s heard now old it new = Hinders what it × (new ≡ old)

-- The store was opened again for a round that was put off with this sitting, and of which this is
-- left. The night is opened, and the round is played.
abbrev pub Resumes : {D : Type 0} → (D → DiskState) → Sitting → Rest → (old : BookView D) → Answer
    → (new : BookView D) → Type 0
Resumes state s rest old it new =
    (found : Option Hindrance) × (between : BookView _) × Opens state s old found between
    × PlaysUnless state found kind.Again s rest.heard rest.now between it new

-- The time of a round is the one that was reported. But the clock of the store never goes back.
abbrev pub time_of : (reported : Option ℕ) → (clock : ℕ) → ℕ
time_of None clock = clock
time_of (Some now) clock = max now clock

-- A round is played after what was known before. The store gets what groups need by which the plan
-- has grown, and then the round is played with the plan as it has grown.
pub record PlaysGrown {D : Type 0} (state : D → DiskState) (how : RoundKind) (known : Kept)
    (round : Round) (old : BookView D) (it : Answer) (new : BookView D) : Type 0 where
  pub sitting : Sitting
  pub is : IsSittingOf known round sitting
  pub found : Option Hindrance
  pub between : BookView D
  pub grows : Grows state sitting old found between
  pub plays : PlaysUnless state found how sitting round.heard
      (time_of round.heard.time between.session.state.tree.clock) between it new

-- ---- for private functions: no public contract cites what follows

-- The end of the night was marked, if it is over, or something hindered that.
abbrev pub EndsNight : {D : Type 0} → (D → DiskState) → (night : ℕ) → (over : Bool)
    → (old : BookView D) → Option Hindrance → (new : BookView D) → Type 0
EndsNight state night over old None new = MarksEnd state night over old new
EndsNight state night over old (Some what) new =
    (over ≡ true) × Closes state night old (Some what) new
