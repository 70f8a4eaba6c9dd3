-- The course of a task: the calls of a worker, in order, with the answer to each. Also the calls
-- that the flusher makes at the same time.
use Rattle.std.specs.Prelude.{ℕ, zero, suc, ◌<◌, ◌≤◌, ◌≡◌, ◌+◌, ◌⊎◌, Bool, true, false, codes}
use Rattle.std.specs.Prelude.{List, [], ◌∷◌, ◌++◌, All, length, Result, Ok, Err, Option, None}
use Rattle.std.specs.Prelude.{Some, IfOk, slice_get, slice_set, ⊤}
use Rattle.run_model.specs.declared.answers.Started.{Started}
use Rattle.run_model.specs.declared.answers.TaskInfo.{TaskInfo}
use Rattle.run_model.specs.declared.bounds.TheConstants.{MOST_TASKS}
use Rattle.run_model.specs.declared.faults.Trouble.{Trouble}
use Rattle.run_model.specs.declared.refusals.Refusal.{Refusal}
use Rattle.run_model.specs.declared.tasks.Outcome.{Outcome}
use Rattle.run_model.specs.declared.tasks.Outcome.TheVariants as outcome
use Rattle.run_crew.specs.declared.jobs.Turn.{Turn}
use Rattle.run_crew.specs.declared.jobs.Turn.TheVariants as turn
use Rattle.run_crew.specs.declared.notes.Note.{Note}

-- The calls of a worker and of the flusher, with their answers.
pub data Call : Type 0 where
  -- under the lock, a task is started
  Start : Result Started Refusal → Call
  -- a wait until all events up to this one are durable, which returns the number of durable events
  Save : ℕ → Result ℕ Trouble → Call
  -- the job at this place is asked whether it handles this name
  Handles : ℕ → List ℕ → Bool → Call
  -- the gate is asked whether this turn of this task may be made
  Gate : ℕ → ℕ → Bool → Call
  -- under the lock, the question whether the scope of this task is done
  Scope : ℕ → Bool → Call
  -- the job at this place makes the turn with this number, and learns whether the scope is done
  Make : ℕ → TaskInfo → ℕ → Bool → Turn → Call
  -- under the lock, this task is finished
  Finish : ℕ → Outcome → Result ℕ Refusal → Call
  -- the gate is informed that this task was finished
  Report : ℕ → Call
  -- the flusher is woken for this event
  Wake : ℕ → Call
  -- a wait until the flusher was woken for a later event than this, which returns that event, or
  -- nothing if the signal is closed
  Wait : ℕ → Option ℕ → Call

-- ---- the calls between two moments

-- These calls, one after another, lead from one state to another, each by a step that it may take.
abbrev pub Path : {A : Type 0} → (A → Call → A → Type 0) → A → List Call → A → Type 0
Path step from [] to = from ≡ to
Path step from (call ∷ calls) to = (mid : _) × step from call mid × Path step mid calls to

-- The calls that lead from one state to another have this property.
abbrev pub Went
    : {A : Type 0} → (A → Call → A → Type 0) → (List Call → Type 0) → A → A → Type 0
Went step Holds from to = (calls : List Call) × Holds calls × Path step from calls to

-- ---- the turns

-- The greatest number of turns of a task.
abbrev pub most_turns : ℕ
most_turns = 1000

-- A round: the gate lets the turn pass, then the scope is queried, and then the turn is made with
-- the answer.
abbrev pub round : TaskInfo → ℕ → ℕ → Bool → Turn → List Call
round info job number done answer =
    Gate info.task number true ∷ Scope info.task done ∷ Make job info number done answer ∷ []

-- These are the rounds before the turn with this number, and in each of them the job wants another
-- turn.
abbrev pub AreRounds : TaskInfo → ℕ → ℕ → List Call → Type 0
AreRounds info job zero calls = calls ≡ []
AreRounds info job (suc number) calls =
    (before : List Call) × (done : Bool) × AreRounds info job number before
    × (calls ≡ before ++ round info job number done turn.More)

-- The turns of a task end at the turn with this number, with this outcome: the gate doesn't let the
-- turn pass, or the turn is the job's last one.
abbrev pub EndsAt : TaskInfo → ℕ → ℕ → List Call → Outcome → Type 0
EndsAt info job number calls how =
    ((calls ≡ Gate info.task number false ∷ []) × (how ≡ outcome.Failure (codes "gate")))
    ⊎ ((done : Bool) × (calls ≡ round info job number done turn.Finished)
    × (how ≡ outcome.Success))
    ⊎ ((done : Bool) × (error : List ℕ) × (calls ≡ round info job number done (turn.Failed error))
    × (how ≡ outcome.Failure error))

-- The turns of a task by this job, and the outcome: they end at a turn that the gate doesn't let
-- pass, at the job's last turn, or after the greatest number of turns.
abbrev pub AreTurns : TaskInfo → ℕ → List Call → Outcome → Type 0
AreTurns info job calls how =
    (AreRounds info job most_turns calls × (how ≡ outcome.Failure (codes "turn limit")))
    ⊎ ((number : ℕ) × (before : List Call) × (last : List Call) × (number < most_turns)
    × AreRounds info job number before × EndsAt info job number last how
    × (calls ≡ before ++ last))

-- ---- the course

-- The jobs before this place are asked in order, and none of them handles the name.
abbrev pub declined : List ℕ → ℕ → List Call
declined name zero = []
declined name (suc place) = declined name place ++ Handles place name false ∷ []

-- The run of a task by this many jobs, and its outcome: the first job that handles its name runs
-- it.
abbrev pub IsRun : ℕ → TaskInfo → List Call → Outcome → Type 0
IsRun jobs info calls how =
    ((calls ≡ declined info.job jobs) × (how ≡ outcome.Failure (codes "no such job")))
    ⊎ ((job : ℕ) × (turns : List Call) × (job < jobs) × AreTurns info job turns how
    × (calls ≡ declined info.job job ++ Handles job info.job true ∷ turns))

-- A start, the answer that this many events are durable (the start is one of them), the run of the
-- task, and the calls after it.
abbrev pub task_calls : Started → ℕ → List Call → List Call → List Call
task_calls started durable run calls =
    Start (Ok started) ∷ Save started.event (Ok durable) ∷ (run ++ calls)

-- The start of a task, and the answer that it is durable; none if the start is refused or doesn't
-- become durable.
abbrev pub IsBegun : Option Started → List Call → Type 0
IsBegun (Some started) calls =
    (durable : ℕ) × (started.event ≤ durable)
    × (calls ≡ Start (Ok started) ∷ Save started.event (Ok durable) ∷ [])
IsBegun None calls =
    ((why : Refusal) × (calls ≡ Start (Err why) ∷ []))
    ⊎ ((started : Started) × (trouble : Trouble)
    × (calls ≡ Start (Ok started) ∷ Save started.event (Err trouble) ∷ []))

-- The complete course of a task, by this many jobs, and the note of its finish.
abbrev pub IsCourse : ℕ → List Call → Note → Type 0
IsCourse jobs calls note =
    (started : Started) × (durable : ℕ) × (run : List Call) × (started.event ≤ durable)
    × IsRun jobs started.info run note.outcome × (note.task ≡ started.info.task)
    × (calls ≡ task_calls started durable run
    (Finish note.task note.outcome (Ok note.event) ∷ Report note.task ∷ Wake note.event ∷ []))

-- A course that ends early, because its start is refused or isn't durable, or because its finish is
-- refused.
abbrev pub IsCutShort : ℕ → List Call → Type 0
IsCutShort jobs calls =
    IsBegun None calls
    ⊎ ((started : Started) × (durable : ℕ) × (run : List Call) × (how : Outcome)
    × (why : Refusal) × (started.event ≤ durable) × IsRun jobs started.info run how
    × (calls ≡ task_calls started durable run
    (Finish started.info.task how (Err why) ∷ [])))

-- The last calls of a worker with these notes: none if the notes are full, and otherwise a course
-- that ends early.
abbrev pub EndsShift : ℕ → List Note → List Call → Type 0
EndsShift jobs notes calls =
    ((length notes ≡ MOST_TASKS) × (calls ≡ []))
    ⊎ ((length notes < MOST_TASKS) × IsCutShort jobs calls)

-- The calls of a worker for its next task, and the notes after it: a complete course and its note,
-- or the end.
abbrev pub TakesTask : ℕ → Bool → List Note → List Note → List Call → Type 0
TakesTask jobs true notes after calls =
    (note : Note) × IsCourse jobs calls note × (after ≡ notes ++ note ∷ [])
TakesTask jobs false notes after calls = (after ≡ notes) × EndsShift jobs notes calls

-- ---- the shift

-- A complete course for each of these notes, one after another.
abbrev pub AreCourses : ℕ → List Note → List Call → Type 0
AreCourses jobs [] calls = calls ≡ []
AreCourses jobs (note ∷ notes) calls =
    (course : List Call) × (rest : List Call) × IsCourse jobs course note
    × AreCourses jobs notes rest × (calls ≡ course ++ rest)

-- All calls of a worker that leaves these notes.
abbrev pub IsShift : ℕ → List Note → List Call → Type 0
IsShift jobs notes calls =
    (courses : List Call) × (last : List Call) × AreCourses jobs notes courses
    × EndsShift jobs notes last × (calls ≡ courses ++ last)

-- ---- the tasks that were started

-- The number of tasks that a call starts.
abbrev pub starts_by : Call → ℕ
starts_by (Start (Ok started)) = 1
starts_by call = 0

-- The number of tasks that these calls start.
abbrev pub starts_in : List Call → ℕ
starts_in [] = 0
starts_in (call ∷ calls) = starts_by call + starts_in calls

-- The calls have this property, and a count of started tasks goes from the one number to the other.
abbrev pub Counts : ℕ → ℕ → (List Call → Type 0) → List Call → Type 0
Counts before after Holds calls = Holds calls × (after ≡ before + starts_in calls)

-- ---- the flusher

-- This many rounds of the flusher, the last of which is for this event. Each round waits until
-- the flusher was woken for a later event than that of the round before, and then until this event
-- is durable or a flush is refused.
abbrev pub AreSaves : ℕ → ℕ → List Call → Type 0
AreSaves zero heard calls = (heard ≡ 0) × (calls ≡ [])
AreSaves (suc rounds) heard calls =
    (before : List Call) × (was : ℕ) × (r : Result ℕ Trouble) × AreSaves rounds was before
    × (was < heard) × IfOk r (λ durable. heard ≤ durable)
    × (calls ≡ before ++ Wait was (Some heard) ∷ Save heard r ∷ [])

-- All calls of the flusher: rounds, until the signal is closed.
abbrev pub IsFlusherRun : List Call → Type 0
IsFlusherRun calls =
    (rounds : ℕ) × (heard : ℕ) × (before : List Call) × AreSaves rounds heard before
    × (calls ≡ before ++ Wait heard None ∷ [])

-- ---- the answers of the lock and the gate

-- The answer to a wait for durable events: some value of the type under the lock has this many
-- durable events, or refused a flush. It may be another value than the one that the lock held at
-- that moment.
abbrev pub IsReported
    : {T : Type 0} → (T → ℕ → Type 0) → (T → Result ℕ Trouble → T → Type 0) → Result ℕ Trouble
    → Type 0
IsReported holds flushes (Ok durable) = (d : _) × holds d durable
IsReported holds flushes (Err why) = (d : _) × (e : _) × flushes d (Err why) e

-- The gate may give this answer to a call of it, or was informed of this.
abbrev pub IsGates : (ℕ → ℕ → Bool → Type 0) → (ℕ → Type 0) → Call → Type 0
IsGates lets reported (Gate task turn answer) = lets task turn answer
IsGates lets reported (Report task) = reported task
IsGates lets reported _ = ⊤

-- The one that was called may give this answer: some value of the type under the lock, according to
-- what a start, a flush, a finish and its questions may return, or the gate.
abbrev pub IsAnswered
    : {T : Type 0} → (T → Result Started Refusal → T → Type 0) → (T → ℕ → Type 0)
    → (T → Result ℕ Trouble → T → Type 0) → (T → ℕ → Bool → Type 0)
    → (T → ℕ → Outcome → Result ℕ Refusal → T → Type 0) → (ℕ → ℕ → Bool → Type 0)
    → (ℕ → Type 0) → Call → Type 0
IsAnswered starts holds flushes reports finishes lets reported (Start r) =
    (d : _) × (e : _) × starts d r e
IsAnswered starts holds flushes reports finishes lets reported
    (Save event r) = IsReported holds flushes r
IsAnswered starts holds flushes reports finishes lets reported (Scope task answer) =
    (d : _) × reports d task answer
IsAnswered starts holds flushes reports finishes lets reported (Finish task how r) =
    (d : _) × (e : _) × finishes d task how r e
IsAnswered starts holds flushes reports finishes lets reported call = IsGates lets reported call

-- These are the notes of a shift with some number of jobs, each of whose calls has such an answer.
abbrev pub IsSomeShift : (Call → Type 0) → List Note → Type 0
IsSomeShift Answered notes =
    (jobs : ℕ) × (calls : List Call) × IsShift jobs notes calls × All Answered calls

-- ---- the answers of the jobs

-- What a call leaves of a worker's jobs, given what they may answer about a name, and what their
-- turns may return and leave. A job that is asked stays the same, and a job that makes a turn
-- becomes what the turn leaves. Other calls change no job, and other jobs stay the same.
abbrev pub StepsJobs
    : {J : Type 0} → (J → List ℕ → Bool → Type 0) → (J → TaskInfo → ℕ → Bool → Turn → J → Type 0)
    → List J → Call → List J → Type 0
StepsJobs answers turns jobs (Handles place name answer) left =
    (job : _) × (slice_get jobs place ≡ Some job) × answers job name answer × (left ≡ jobs)
StepsJobs answers turns jobs (Make place info number done answer) left =
    (job : _) × (after : _) × (slice_get jobs place ≡ Some job)
    × turns job info number done answer after × (left ≡ slice_set jobs place after)
StepsJobs answers turns jobs call left = left ≡ jobs

-- A call has such an answer, and the jobs answer and change as they may.
abbrev pub StepsShift
    : {J : Type 0} → (Call → Type 0) → (J → List ℕ → Bool → Type 0)
    → (J → TaskInfo → ℕ → Bool → Turn → J → Type 0) → List J → Call → List J → Type 0
StepsShift Answered answers turns jobs call left =
    Answered call × StepsJobs answers turns jobs call left

-- These are the notes of a shift that began with these jobs and started this many tasks. Each of
-- its calls has such an answer.
abbrev pub IsOfShift
    : {J : Type 0} → (Call → Type 0) → (J → List ℕ → Bool → Type 0)
    → (J → TaskInfo → ℕ → Bool → Turn → J → Type 0) → List J → List Note → (starts : ℕ) → Type 0
IsOfShift Answered answers turns jobs notes starts =
    (left : List _)
    × Went (StepsShift Answered answers turns) (Counts 0 starts (IsShift (length jobs) notes))
    jobs left
