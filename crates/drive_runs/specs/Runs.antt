-- What a run does from its first line to its end: which lines of the input it takes, what it
-- answers to each of them, and what it leaves of the store.
use mathlib.Core.Logic.{inl, inr}
use Rattle.std.specs.Prelude.{◌≡◌, ◌⊎◌, ◌+◌, ◌++◌, ◌∷◌, ℕ, zero, suc, List, [], Option, Result}
use Rattle.std.specs.Prelude.{Err, Ok, take}
use Rattle.std.specs.Io.KnownBytes.{Appends, Consumes, IsAtEnd}
use Rattle.run_model.specs.declared.faults.Fault.{Fault}
use Rattle.run_model.specs.declared.faults.Trouble.TheVariants as trouble
use Rattle.run_disk.specs.Disk.{DiskState}
use Rattle.book_model.specs.Books.{BookView, Flushes, IsSafe}
use Rattle.book_model.specs.Openings.{Opens}
use Rattle.book_model.specs.Standing.{LiesWith}
use Rattle.console_lines.specs.Lines.{whole_lines}
use Rattle.console_lines.specs.declared.faults.RunFault.{RunFault}
use Rattle.console_lines.specs.declared.faults.RunFault.TheVariants as run_fault
use Rattle.plan_lines.specs.Writing.{WritesPrefix}
use Rattle.drive_lines.specs.declared.inputs.NextLine.{NextLine}
use Rattle.drive_lines.specs.declared.inputs.NextLine.TheVariants as found
use Rattle.drive_lines.specs.declared.orders.Order.{Order}
use Rattle.drive_lines.specs.declared.orders.Order.TheVariants as order
use Rattle.drive_lines.specs.declared.reports.Report.{Report}
use Rattle.drive_lines.specs.Orders.{order_lines}
use Rattle.drive_lines.specs.Reports.{SaysReport}
use Rattle.drive_parts.specs.declared.plans.PlanDraft.{PlanDraft}
use Rattle.drive_parts.specs.Plans.{IsPlanned}
use Rattle.drive_runs.specs.declared.answers.Answer.{Answer}
use Rattle.drive_runs.specs.declared.drive_ends.DriveEnd.{DriveEnd}
use Rattle.drive_runs.specs.declared.parts.Next.{Next}
use Rattle.drive_runs.specs.declared.parts.Next.TheVariants as next
use Rattle.drive_runs.specs.declared.parts.Part.TheVariants as part
use Rattle.drive_runs.specs.declared.round_parts.Rest.{Rest}
use Rattle.drive_runs.specs.declared.runs.Sat.{Sat}
use Rattle.drive_runs.specs.declared.runs.Sat.TheVariants as sat
use Rattle.drive_runs.specs.declared.runs.Start.{Start}
use Rattle.drive_runs.specs.declared.runs.Start.TheVariants as start
use Rattle.drive_runs.specs.declared.sittings.Sitting.{Sitting}
use Rattle.drive_runs.specs.Answers.{Resumes, Writes, end_line}
use Rattle.drive_runs.specs.Moving.{Moves}
use Rattle.drive_runs.specs.Parts.{AnswersLine, Gives, LeavesAlone}

-- ---- where a run is

-- What a run does next over a store that is open: it answers the round for which the store was
-- opened again; or it goes on as its last answer says.
abbrev pub Doing : Type 0
Doing = (Sitting × Rest) ⊎ Next

-- How far a run has come: how many lines of the input it has taken, the bytes of these lines, all
-- that it has answered, and what it does next.
pub record Place : Type 0 where
  pub lines : ℕ
  pub taken : List ℕ
  pub said : List ℕ
  pub doing : Doing

-- Where a run begins: it reads a plan.
abbrev pub beginning : PlanDraft → Place
beginning draft = record {
  lines = zero;
  taken = [];
  said = [];
  doing = inr (next.Part (part.Plan draft));
}

-- ---- a line of the input

-- These bytes are a line, and an LF ends it.
pub record IsEnded (bytes line : List ℕ) : Type 0 where
  pub parts : bytes ≡ line ++ 10 ∷ []
  pub whole : whole_lines [] line ≡ []

-- After the bytes that were taken, the whole input has no other LF.
pub record IsInputOver (input : Option (List ℕ)) (taken : List ℕ) : Type 0 where
  pub rest : List ℕ
  pub none : whole_lines [] rest ≡ []
  pub left : Option (List ℕ)
  pub read : Consumes input left (taken ++ rest)
  pub over : IsAtEnd left

-- This comes next in the input, after the bytes that were taken, and these are its bytes: an empty
-- line; or a line that reports something, or that reports nothing; or no line, since the input is
-- over. (The first 256 bytes of a line decide, because no line that reports something is as long.)
abbrev pub IsNextLine : Option (List ℕ) → (taken : List ℕ) → NextLine → (bytes : List ℕ) → Type 0
IsNextLine input taken found.InputEnded bytes = (bytes ≡ []) × IsInputOver input taken
IsNextLine input taken found.PartEnded bytes = IsEnded bytes []
IsNextLine input taken (found.Report r) bytes =
    (line : List ℕ) × IsEnded bytes line × SaysReport r (take 256 line)
IsNextLine input taken found.Bad bytes =
    (line : List ℕ) × IsEnded bytes line × (line ≡ [] → ⊥)
    × ((r : Report) → SaysReport r (take 256 line) → ⊥)

-- ---- an answer

-- How many lines were taken once this is done: one more, unless a round is answered for which the
-- store was opened again. (The end of the input counts as a line.)
abbrev pub lines_once : Doing → ℕ → ℕ
lines_once (inl again) n = n
lines_once (inr it) n = n + 1

-- The disk of a book stores the state of the book, and is at rest. This holds if the disk is honest
-- and was at rest when the book was opened.
abbrev pub StoresAll : {D : Type 0} → (D → DiskState) → BookView D → Type 0
StoresAll state b = IsSafe state b → LiesWith state b.journal.disk b.session.state

-- These lines report the fault that was met by the flush of a round that is put off. Or there are
-- no lines.
abbrev pub IsUnsettled : {D : Type 0} → (D → DiskState) → Doing → (old : BookView D) → List Order
    → (new : BookView D) → Type 0
IsUnsettled state doing old lines new =
    (lines ≡ [])
    ⊎ ((sitting : Sitting) × (rest : Rest) × (doing ≡ inr (next.Opening sitting rest))
    × (why : Fault) × Flushes state old (Err (trouble.Faulty why)) new
    × (lines ≡ order.Fault why ∷ end_line ∷ []))

module _ {D : Type 0} (state : D → DiskState) (input : Option (List ℕ)) where
  -- This is answered to these bytes, which come after those that were taken: to the next line of
  -- the part, which has this number; or to a round for which the store was opened again, and then
  -- nothing is taken.
  abbrev pub IsAnswered : Doing → (number : ℕ) → (taken bytes : List ℕ) → (old : BookView D)
      → Answer → (new : BookView D) → Type 0
  IsAnswered (inl (sitting, rest)) number taken bytes old it new =
      (bytes ≡ []) × Resumes state sitting rest old it new
  IsAnswered (inr (next.Part part)) number taken bytes old it new =
      (found : NextLine) × IsNextLine input taken found bytes
      × AnswersLine state part found number old it new × LeavesAlone found old new
  IsAnswered (inr _) number taken bytes old it new = ⊥

  -- One answer was given, and the run goes on as it says.
  pub record IsTurn (at : Place) (old : BookView D) (to : Place) (new : BookView D)
      : Type 0 where
    pub bytes : List ℕ
    pub answer : Answer
    pub answered : IsAnswered at.doing (at.lines + 1) at.taken bytes old answer new
    pub moves : Moves state old new
    pub goes : to ≡ record {
      lines = lines_once at.doing at.lines;
      taken = at.taken ++ bytes;
      said = at.said ++ order_lines answer.lines.items;
      doing = inr answer.next;
    }

  -- So many answers were given one after another, each where the one before it has left the run.
  abbrev pub Answers : ℕ → (at : Place) → (old : BookView D) → (to : Place) → (new : BookView D)
      → Type 0
  Answers zero at old to new = (to ≡ at) × (new ≡ old)
  Answers (suc n) at old to new =
      (middle : Place) × (between : BookView D) × Answers n at old middle between
      × IsTurn middle between to new

  -- ---- over one opening

  -- The store on a disk was opened, and answers were given over it.
  pub record IsSitting (given : D) (at to : Place) (last : BookView D) : Type 0 where
    pub before : BookView D
    pub opened : Opens state given (Ok before)
    pub count : ℕ
    pub answers : Answers count at before to last

  -- A round was put off. All that the book got was made durable, and the store is opened again for
  -- the round.
  pub record IsPutOff (given : D) (at to : Place) (left : D) : Type 0 where
    pub place : Place
    pub last : BookView D
    pub sitting : IsSitting given at place last
    pub settled : BookView D
    pub moves : Moves state last settled
    pub stores : StoresAll state settled
    pub disk : left ≡ settled.journal.disk
    pub again : Sitting × Rest
    pub waits : place.doing ≡ inr (next.Opening again.0 again.1)
    pub goes : to ≡ record {
      lines = place.lines;
      taken = place.taken;
      said = place.said;
      doing = inl again;
    }

  -- ---- over all openings

  -- The store was opened so many times, one time after another, each time for a round that was put
  -- off over the opening before.
  abbrev pub Sittings : ℕ → (given : D) → (at : Place) → (left : D) → (to : Place) → Type 0
  Sittings zero given at left to = (left ≡ given) × (to ≡ at)
  Sittings (suc n) given at left to =
      (middle : D) × (between : Place) × Sittings n given at middle between
      × IsPutOff middle between to left

  -- A run ends well only as its last answer says. Nothing is said of the fault with which it ends
  -- otherwise.
  abbrev pub IsEnd : Result DriveEnd RunFault → Doing → Type 0
  IsEnd (Ok how) doing = doing ≡ inr (next.End how)
  IsEnd (Err why) doing = Unit {0}

  -- The store was opened for the last time, and the run ended. After the answers a fault may have
  -- been reported.
  pub record EndsOpen (given : D) (at to : Place) (last : List Order)
      (result : Result DriveEnd RunFault) (left : D) : Type 0 where
    pub answered : BookView D
    pub sitting : IsSitting given at to answered
    pub ends : IsEnd result to.doing
    pub after : BookView D
    pub moves : Moves state answered after
    pub unsettled : IsUnsettled state to.doing answered last after
    pub disk : left ≡ after.journal.disk

  -- The store can't be opened, or wasn't, and the run ended with a fault.
  pub record EndsClosed (given : D) (at to : Place) (last : List Order)
      (result : Result DriveEnd RunFault) (left : D) : Type 0 where
    pub why : RunFault
    pub fails : result ≡ Err why
    pub disk : (left ≡ given) ⊎ ((fault : Fault) × Opens state given (Err (fault, left)))
    pub stays : to ≡ at
    pub silent : last ≡ []

-- A run began over the store on a disk, and opened the store some times, one time after another,
-- until it ended. It has read the lines that it took, and perhaps more. All that it answered was
-- written, or, if it ended with a fault, perhaps only a prefix of that.
pub record LeavesDriven {D : Type 0} (state : D → DiskState) (given left : D)
    (r0 r1 w0 w1 : Option (List ℕ)) (result : Result DriveEnd RunFault) : Type 0 where
  pub draft : PlanDraft
  pub none : IsPlanned [] draft
  pub count : ℕ
  pub middle : D
  pub at : Place
  pub sittings : Sittings state r0 count given (beginning draft) middle at
  pub to : Place
  pub last : List Order
  pub ends : EndsOpen state r0 middle at to last result left
      ⊎ EndsClosed state r0 middle at to last result left
  pub more : List ℕ
  pub read : Consumes r0 r1 (to.taken ++ more)
  pub writes : Writes w0 w1 result (to.said ++ order_lines last)

-- ---- for private functions: no public contract cites what follows

-- What a run does at first over an opening of the store.
abbrev pub doing_at : Start → Doing
doing_at (start.Part it) = inr (next.Part it)
doing_at (start.Recorded sitting rest) = inl (sitting, rest)

-- The round for which the store was opened is answered, if there is one.
abbrev pub AnswersFirst : {D : Type 0} → (D → DiskState) → Start → (old new : BookView D)
    → (w0 w1 : Option (List ℕ)) → Result Next RunFault → Type 0
AnswersFirst state (start.Part it) old new w0 w1 result =
    (result ≡ Ok (next.Part it)) × (new ≡ old) × (w1 ≡ w0)
AnswersFirst state (start.Recorded sitting rest) old new w0 w1 result =
    ((it : Answer) × Resumes state sitting rest old it new × Gives it w0 w1 result)
    ⊎ ((result ≡ Err run_fault.Memory) × (w1 ≡ w0))

-- Nothing more can be made durable. If that is for a fault, a line says so, of which perhaps only a
-- prefix was written.
abbrev pub Unsettles : {D : Type 0} → (D → DiskState) → (old new : BookView D)
    → (w0 w1 : Option (List ℕ)) → Type 0
Unsettles state old new w0 w1 =
    (w1 ≡ w0)
    ⊎ ((why : Fault) × Flushes state old (Err (trouble.Faulty why)) new
    × WritesPrefix w0 w1 (order_lines (order.Fault why ∷ end_line ∷ [])))

-- All that the book got is durable, or nothing more can be made durable.
abbrev pub Settles : {D X : Type 0} → (D → DiskState) → (old new : BookView D)
    → (w0 w1 : Option (List ℕ)) → Result X RunFault → Type 0
Settles state old new w0 w1 (Ok done) = StoresAll state new × (w1 ≡ w0)
Settles state old new w0 w1 (Err why) = Unsettles state old new w0 w1

-- This is how far a run has come that does this next, by what it has read and written since its
-- beginning. It has read these bytes more than it has taken.
pub record IsAt (at : Place) (doing : Doing) (number : ℕ) (held : List ℕ)
    (r0 r w0 w : Option (List ℕ)) : Type 0 where
  pub does : at.doing ≡ doing
  pub lines : at.lines ≡ number
  pub read : Consumes r0 r (at.taken ++ held)
  pub written : Appends w0 w at.said

-- What a run does next when it is done with an opening.
abbrev pub next_after : Sat → Next
next_after (sat.Opening sitting rest) = next.Opening sitting rest
next_after (sat.End how) = next.End how

-- The bytes that were read and not taken are those that the reader holds. At the end of a run
-- nobody needs to know them.
abbrev pub AreHeld : Next → (kept bytes : List ℕ) → Type 0
AreHeld (next.End how) kept bytes = Unit {0}
AreHeld _ kept bytes = bytes ≡ kept

abbrev pub IsSettled : {D : Type 0} → (D → DiskState) → Sat → (old new : BookView D) → Type 0
IsSettled state (sat.Opening sitting rest) old new = Moves state old new × StoresAll state new
IsSettled state (sat.End how) old new = new ≡ old

-- Answers were given from this place on, and this is where the run is now.
pub record Goes {D : Type 0} (state : D → DiskState) (at : Place) (old : BookView D) (to : Next)
    (number : ℕ) (kept : List ℕ) (r0 r w0 w : Option (List ℕ)) (new : BookView D) : Type 0 where
  pub count : ℕ
  pub place : Place
  pub answers : Answers state r0 count at old place new
  pub bytes : List ℕ
  pub held : AreHeld to kept bytes
  pub here : IsAt place (inr to) number bytes r0 r w0 w

-- Answers were given from this place on, and then the run failed. A prefix of them was written, and
-- perhaps a fault was reported.
pub record Fails {D : Type 0} (state : D → DiskState) (at : Place) (old : BookView D)
    (r0 r w0 w : Option (List ℕ)) (new : BookView D) : Type 0 where
  pub count : ℕ
  pub place : Place
  pub answered : BookView D
  pub answers : Answers state r0 count at old place answered
  pub moves : Moves state answered new
  pub lines : List Order
  pub unsettled : IsUnsettled state place.doing answered lines new
  pub more : List ℕ
  pub read : Consumes r0 r (place.taken ++ more)
  pub written : WritesPrefix w0 w (place.said ++ order_lines lines)

-- How a run has used one opening of the store, from this place on.
abbrev pub Sits : {D : Type 0} → (D → DiskState) → (at : Place) → (old new : BookView D)
    → (number : ℕ) → (kept : List ℕ) → (r0 r w0 w : Option (List ℕ)) → Result Sat RunFault
    → Type 0
Sits state at old new number kept r0 r w0 w (Ok it) =
    (last : BookView _) × Goes state at old (next_after it) number kept r0 r w0 w last
    × IsSettled state it last new
Sits state at old new number kept r0 r w0 w (Err why) = Fails state at old r0 r w0 w new
