-- The nights of a crew over a store, one after another, and what comes between them.
--
-- In a night, the workers and the flusher call one book, under its lock. So these calls come one
-- after another, as the steps of the machine that a book is. A contract of a crew doesn't say so:
-- it is what a lock is for.
use Rattle.std.specs.Prelude.{◌≡◌, ◌+◌, ◌==◌, if◌then◌else◌, ℕ, true, List, [], ◌∷◌, ◌++◌, Ok}
use Rattle.run_model.specs.declared.answers.Reply.{Reply}
use Rattle.run_model.specs.declared.answers.Reply.TheVariants as reply
use Rattle.run_model.specs.declared.commands.Step.{Step}
use Rattle.run_model.specs.declared.commands.Step.TheVariants as step
use Rattle.run_model.specs.declared.layouts.Layout.{Layout}
use Rattle.run_model.specs.Session.{replied}
use Rattle.run_model.specs.State.{State}
use Rattle.state_renewal.specs.Renewed.{keeps_task, new_number, renewed_in}
use Rattle.book_model.specs.Machines.{CrashesAt, Running, opened_at, took}
use Rattle.book_model.specs.ManyNights.{Leads as LeadsBy, Night}
use Rattle.book_model.specs.Plays.{IsReply}
use Rattle.run_crew.specs.declared.notes.Note.{Note}
use Rattle.run_crew.specs.Courses.{Call, IsShift}
use Rattle.run_crew.specs.Courses as call

-- ---- a night

-- What a thread of a crew does.
pub data Deed : Type 0 where
  -- the worker with this number makes a call, and gets the answer that the call contains
  Did : ℕ → Call → Deed
  -- a thread flushes the book, and gets this reply
  Flushed : Reply → Deed

-- The machine takes this step, and answers with this reply.
abbrev pub Steps : Running → Step → Reply → Running → Type 0
Steps m x r next = IsReply m.book x r × (next ≡ took m x r)

-- A deed leads from the one machine to the other. A start, a finish and a flush are steps. The
-- answer to a wait for durable events is the number of the last event that is acknowledged at that
-- moment. No other call changes the machine.
abbrev pub Happens : Running → Deed → Running → Type 0
Happens m (Did worker (call.Start r)) next = Steps m step.Start (replied reply.Started r) next
Happens m (Did worker (call.Finish task how r)) next =
    Steps m (step.Finish task how) (replied reply.Finished r) next
Happens m (Did worker (call.Save event (Ok durable))) next =
    (durable ≡ m.book.session.start.count + m.acked) × (next ≡ m)
Happens m (Did worker other) next = next ≡ m
Happens m (Flushed r) next = Steps m step.Flush r next

-- These deeds, one after another, lead from the one machine to the other.
abbrev pub Happen : Running → List Deed → Running → Type 0
Happen m [] last = last ≡ m
Happen m (deed ∷ deeds) last = (next : Running) × Happens m deed next × Happen next deeds last

-- The calls of one worker, in order.
abbrev pub calls_of : ℕ → List Deed → List Call
calls_of worker [] = []
calls_of worker (Did other made ∷ deeds) =
    if other == worker then made ∷ calls_of worker deeds else calls_of worker deeds
calls_of worker (Flushed r ∷ deeds) = calls_of worker deeds

-- These are the first calls of a shift. A crash may come after any of them.
pub record BeginsShift (calls : List Call) : Type 0 where
  pub jobs : ℕ
  pub notes : List Note
  pub later : List Call
  pub shift : IsShift jobs notes (calls ++ later)

-- A night of a crew, so far: a book was opened over a store with this state, and then these deeds
-- happened. The calls of each worker are the first ones of a shift.
pub record IsNight (p : State) (deeds : List Deed) (last : Running) : Type 0 where
  pub happen : Happen (opened_at p) deeds last
  pub shifts : (worker : ℕ) → BeginsShift (calls_of worker deeds)

-- ---- turns

-- The deed is the turn with this number of this task, by this worker.
abbrev pub IsTurn : Deed → (worker task number : ℕ) → Type 0
IsTurn (Did other (call.Make place info turn done answer)) worker task number =
    (other ≡ worker) × (info.task ≡ task) × (turn ≡ number)
IsTurn deed worker task number = ⊥

-- One of the deeds is a turn of this task.
pub record HaveTurn (deeds : List Deed) (task : ℕ) : Type 0 where
  pub early : List Deed
  pub deed : Deed
  pub late : List Deed
  pub worker : ℕ
  pub number : ℕ
  pub is_in : deeds ≡ early ++ deed ∷ late
  pub turn : IsTurn deed worker task number

-- ---- many nights

-- What happens to a store, from one moment at which no program has it open to the next one.
pub data Chapter : Type 0 where
  -- a session of commands, such as a retry, or an opening that failed
  Session : Night → Chapter
  -- a night of a crew, and then a crash during these steps, whose replies nobody has seen
  Crewed : List Deed → List Step → Chapter
  -- a renewal: a store of this layout takes its place
  Renewal : Layout → Chapter

-- The chapter leads from a store with state p to a store with state q.
abbrev pub Leads : State → Chapter → State → Type 0
Leads p (Session night) q = LeadsBy p night q
Leads p (Crewed deeds more) q =
    (last : Running) × IsNight p deeds last × CrashesAt last more q
Leads p (Renewal layout) q = q ≡ renewed_in layout p

-- The task that has the number n before the chapter has the number m after it. A renewal drops
-- tasks, and gives new numbers to those that it keeps. Otherwise a task keeps its number.
abbrev pub IsNumbered : State → Chapter → (n m : ℕ) → Type 0
IsNumbered p (Renewal layout) n m =
    (keeps_task p n ≡ true) × (m ≡ new_number (keeps_task p) n)
IsNumbered p chapter n m = m ≡ n

-- These chapters, one after another, lead from a store with state p to a store with state q, and
-- task n of the first store is task m of the last one.
abbrev pub Follow : State → (n : ℕ) → List Chapter → State → (m : ℕ) → Type 0
Follow p n [] q m = (q ≡ p) × (m ≡ n)
Follow p n (chapter ∷ chapters) q m =
    (next : State) × (k : ℕ) × Leads p chapter next × IsNumbered p chapter n k
    × Follow next k chapters q m
