-- A night of a crew whose audit found no difference.
use Rattle.std.specs.Prelude.{◌≡◌, ◌<◌, ◌≤◌, ◌==◌, ◌⊎◌, ℕ, Bool, false, List, [], ◌∷◌, ◌++◌, Some}
use Rattle.std.specs.Prelude.{Err, count_by, length, slice_get}
use Rattle.std.specs.List.{AllZip}
use Rattle.run_model.specs.declared.answers.TaskInfo.{TaskInfo}
use Rattle.run_model.specs.declared.refusals.Refusal.{Refusal}
use Rattle.run_model.specs.declared.tasks.Task.{Task}
use Rattle.run_model.specs.State.{State}
use Rattle.run_model.specs.Tasks.{is_unfinished}
use Rattle.run_disk.specs.Disk.{DiskState}
use Rattle.book_model.specs.Books.{BookView}
use Rattle.book_model.specs.Openings.{HasOpened}
use Rattle.book_model.specs.Stores.{Stores}
use Rattle.run_crew.specs.declared.jobs.Turn.{Turn}
use Rattle.run_crew.specs.declared.notes.Note.{Note}
use Rattle.run_crew.specs.Courses.{AreCourses, Call, Make, Start, StepsShift, Went}
use Rattle.run_crew.specs.Notes.{all_notes}
use Rattle.run_crew.specs.Openings.{From, Known, opened_of}

-- There is a task with this number, and it has ended.
abbrev pub HasEnded : State → ℕ → Type 0
HasEnded p n =
    (row : Task) × (slice_get p.work.tasks n ≡ Some row) × (is_unfinished row.stage ≡ false)

-- The number of notes of this task.
abbrev pub notes_of : ℕ → List Note → ℕ
notes_of task notes = count_by (λ note. note.task == task) notes

-- ---- whole shifts

-- All calls of a worker that has started no task but those in these notes: a complete course for
-- each note, and then at most a start that is refused.
abbrev pub IsWholeShift : ℕ → List Note → List Call → Type 0
IsWholeShift jobs notes calls =
    (courses : List Call) × (last : List Call) × AreCourses jobs notes courses
    × ((last ≡ []) ⊎ ((why : Refusal) × (last ≡ Start (Err why) ∷ [])))
    × (calls ≡ courses ++ last)

-- There is a list of notes for each list of jobs. They are the notes of a whole shift with these
-- jobs, each of whose calls has such an answer.
abbrev pub AreWholeShifts : {J L : Type 0} → (Call → Type 0) → (J → List ℕ → Bool → Type 0)
    → (J → TaskInfo → ℕ → Bool → Turn → J → Type 0) → (L → List J) → List L → List (List Note)
    → Type 0
AreWholeShifts Answered answers turns items jobs lists =
    AllZip (λ list notes. (left : List _)
    × Went (StepsShift Answered answers turns) (IsWholeShift (length (items list)) notes)
    (items list) left) jobs lists

-- ---- the turns of a shift

-- The call is the turn with this number of this task.
abbrev pub IsMade : Call → (task number : ℕ) → Type 0
IsMade (Make place info turn done answer) task number = (info.task ≡ task) × (turn ≡ number)
IsMade call task number = ⊥

-- If the call is a turn, one of these notes is of its task.
abbrev pub IsOfNoted : List Note → Call → Type 0
IsOfNoted notes call = (task number : ℕ) → IsMade call task number → 0 < notes_of task notes

-- If both calls are turns of the same task, the second turn has the greater number.
abbrev pub GoesUp : Call → Call → Type 0
GoesUp call next =
    (task number later : ℕ) → IsMade call task number → IsMade next task later → number < later

-- ---- the night

-- A crew worked on a store with state p, and each of this many workers left a list of notes. Their
-- shifts were like this. Every crash leaves the state `last`. No task has two notes. A task with a
-- note has ended by then, and hadn't ended before.
pub record IsAudited {D : Type 0} (state : D → DiskState)
    (Shifts : Known → List (List Note) → Type 0) (p : State) (workers : ℕ) (given left : D)
    : Type 0 where
  pub book : BookView D
  pub opened : HasOpened state given book
  pub lists : List (List Note)
  pub shifts : Shifts (From (opened_of state book)) lists
  pub each_has_a_list : length lists ≡ workers
  pub last : State
  pub stores : (x : List ℕ) → (state left).images x → Stores x last
  pub once : (task : ℕ) → notes_of task (all_notes lists) ≤ 1
  pub ended : (task : ℕ) → 0 < notes_of task (all_notes lists) → HasEnded last task
  pub never : (task : ℕ) → HasEnded p task → notes_of task (all_notes lists) ≡ 0
