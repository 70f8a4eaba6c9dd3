-- How a task ends by the turns of a worker's jobs.
use Rattle.std.specs.Prelude.{ℕ, zero, suc, ◌<◌, ◌≡◌, ◌⊎◌, Bool, true, false, codes, List, [], ◌∷◌}
use Rattle.std.specs.Prelude.{◌++◌, Ok, Some, slice_get, slice_set, ◌≤◌, ⊤}
use Rattle.run_model.specs.declared.answers.Started.{Started}
use Rattle.run_model.specs.declared.answers.TaskInfo.{TaskInfo}
use Rattle.run_model.specs.declared.tasks.Outcome.{Outcome}
use Rattle.run_model.specs.declared.tasks.Outcome.TheVariants as outcome
use Rattle.run_disk.specs.Disk.{DiskState}
use Rattle.book_model.specs.Books.{IsDurable}
use Rattle.run_crew.specs.declared.jobs.Turn.{Turn}
use Rattle.run_crew.specs.declared.jobs.Turn.TheVariants as turn
use Rattle.run_crew.specs.declared.notes.Note.{Note}
use Rattle.run_crew.specs.Courses.{Call, most_turns}
use Rattle.run_crew.specs.Courses as call
use Rattle.run_crew.specs.Desks.{DeskView}
use Rattle.run_crew.specs.Openings.{Carries, Known}

module _ {J : Type 0} (answers : J → List ℕ → Bool → Type 0)
    (turns : J → TaskInfo → ℕ → Bool → Turn → J → Type 0) (Answered : Call → Type 0) where
  -- This job made the first n turns of a task. Before each of them the gate let it pass, and the
  -- job learned the answer about the scope. After each of them the job wanted another turn. The
  -- turns left this job.
  abbrev pub Turned : TaskInfo → ℕ → J → J → Type 0
  Turned info zero job left = left ≡ job
  Turned info (suc number) job left =
      (mid : J) × (done : Bool) × Turned info number job mid
      × Answered (call.Gate info.task number true) × Answered (call.Scope info.task done)
      × turns mid info number done turn.More left

  -- The outcome of a task at the turn with this number: the gate didn't let the turn pass, or the
  -- job ended the task.
  abbrev pub EndsTurn : TaskInfo → ℕ → J → J → Outcome → Type 0
  EndsTurn info number job left how =
      (Answered (call.Gate info.task number false) × (left ≡ job)
      × (how ≡ outcome.Failure (codes "gate")))
      ⊎ ((done : Bool) × Answered (call.Gate info.task number true)
      × Answered (call.Scope info.task done)
      × ((turns job info number done turn.Finished left × (how ≡ outcome.Success))
      ⊎ ((error : List ℕ) × turns job info number done (turn.Failed error) left
      × (how ≡ outcome.Failure error))))

  -- The outcome of a task by the turns of this job: it ended at one of them, or reached the turn
  -- limit.
  abbrev pub EndsBy : TaskInfo → J → J → Outcome → Type 0
  EndsBy info job left how =
      (Turned info most_turns job left × (how ≡ outcome.Failure (codes "turn limit")))
      ⊎ ((number : ℕ) × (mid : J) × (number < most_turns) × Turned info number job mid
      × EndsTurn info number mid left how)

  -- The outcome of a task by these jobs: by the turns of the first that handles its name, or
  -- because no job does.
  abbrev pub EndsAmong : TaskInfo → List J → List J → Outcome → Type 0
  EndsAmong info jobs left how =
      (((place : ℕ) (job : J) → slice_get jobs place ≡ Some job → answers job info.job false)
      × (left ≡ jobs) × (how ≡ outcome.Failure (codes "no such job")))
      ⊎ ((place : ℕ) × (job : J) × (after : J) × (slice_get jobs place ≡ Some job)
      × ((earlier : ℕ) (other : J) → earlier < place → slice_get jobs earlier ≡ Some other
      → answers other info.job false)
      × answers job info.job true × EndsBy info job after how
      × (left ≡ slice_set jobs place after))

  -- A task was started, and its start was one of this many durable events. Then these jobs ran it,
  -- and it was finished with the outcome in the note.
  pub record IsDone (note : Note) (jobs left : List J) : Type 0 where
    pub started : Started
    pub durable : ℕ
    pub task : note.task ≡ started.info.task
    pub start : Answered (call.Start (Ok started))
    pub counted : started.event ≤ durable
    pub saved : Answered (call.Save started.event (Ok durable))
    pub ends : EndsAmong started.info jobs left note.outcome
    pub finish : Answered (call.Finish note.task note.outcome (Ok note.event))

  -- Each of these tasks was run by these jobs, one after another.
  abbrev pub AreDone : List Note → List J → Type 0
  AreDone [] jobs = ⊤
  AreDone (note ∷ notes) jobs =
      (left : List J) × IsDone note jobs left × AreDone notes left

-- ---- starts before turns

-- In these calls the task with this info was started, and then its start was one of the durable
-- events.
pub record IsStarted (calls : List Call) (info : TaskInfo) : Type 0 where
  pub early : List Call
  pub late : List Call
  pub started : Started
  pub durable : ℕ
  pub is_in : calls
      ≡ early ++ call.Start (Ok started) ∷ call.Save started.event (Ok durable) ∷ late
  pub same : info ≡ started.info
  pub counted : started.event ≤ durable

-- In these calls, the start of a task was durable before each turn of it.
abbrev pub TurnsFollow : List Call → Type 0
TurnsFollow calls =
    (early late : List Call) (place : ℕ) (info : TaskInfo) (number : ℕ) (done : Bool)
    (answer : Turn) → calls ≡ early ++ call.Make place info number done answer ∷ late
    → IsStarted early info

-- Some desk whose book carries on from what is known counted the start of the task in this note
-- among its durable events.
pub record WasDurable {D : Type 0} (state : D → DiskState) (known : Known) (note : Note)
    : Type 0 where
  pub started : Started
  pub desk : DeskView D
  pub task : note.task ≡ started.info.task
  pub carries : Carries known state desk.book
  pub counted : started.event ≤ desk.book.durable
  pub durable : IsDurable state desk.book
