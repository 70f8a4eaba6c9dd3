-- The jobs that the program's crews know, and the tasks of a store whose jobs they don't know.
use Rattle.std.specs.Prelude.{◌≡◌, ◌+◌, ◌&&◌, ◌||◌, ℕ, Bool, true, false, not, List, [], ◌∷◌}
use Rattle.std.specs.Prelude.{length, codes, filter, bytes_eq, Option, Some, None, Result, Ok, Err}
use Rattle.run_model.specs.declared.answers.TaskLook.{TaskLook}
use Rattle.run_model.specs.declared.faults.Fault.{Fault}
use Rattle.run_model.specs.declared.tasks.Phase.{Phase}
use Rattle.run_model.specs.declared.tasks.Phase.TheVariants as phase
use Rattle.run_model.specs.declared.tasks.Task.{Task}
use Rattle.run_model.specs.State.{State}
use Rattle.run_model.specs.Tasks.{is_unfinished}
use Rattle.run_disk.specs.Disk.{DiskState}
use Rattle.book_model.specs.Openings.{HasRecovered, RecoversNone}
use Rattle.store_words.specs.declared.endings.UnknownJob.{UnknownJob}

-- The crews know these three jobs.
abbrev pub is_known : List ℕ → Bool
is_known job =
    bytes_eq job (codes "spin") || (bytes_eq job (codes "fail") || bytes_eq job (codes "copy"))

-- The task hasn't ended, and the crews don't know its job.
abbrev pub is_strange : Task → Bool
is_strange task = is_unfinished task.stage && not (is_known task.job)

-- The report about such tasks: the job of the first one, and how many there are.
abbrev pub reported_of : List Task → Option UnknownJob
reported_of [] = None
reported_of (task ∷ tasks) = Some (record { job = task.job; tasks = length tasks + 1 })

-- The report about these tasks.
abbrev pub unknown_in : List Task → Option UnknownJob
unknown_in tasks = reported_of (filter is_strange tasks)

-- The store on a disk was only read. Either these tasks with unknown jobs were found in its state,
-- or no state was found, and the fault says why.
abbrev pub FindsUnknown :
    {D : Type 0} → (D → DiskState) → D → Result (Option UnknownJob) Fault → D → Type 0
FindsUnknown state old (Ok found) new =
    (p : State) × HasRecovered p (state old) (state new) × (unknown_in p.work.tasks ≡ found)
FindsUnknown state old (Err why) new = RecoversNone state old why new

-- ---- for private functions: no public contract cites what follows

-- A task in this phase hasn't ended.
abbrev pub is_unended : Phase → Bool
is_unended phase.Held = true
is_unended phase.Ready = true
is_unended phase.Running = true
is_unended _ = false

-- This is the answer to a question about a task.
abbrev pub IsSeen : Task → TaskLook → Type 0
IsSeen task look = (task.job ≡ look.job) × (is_unfinished task.stage ≡ is_unended look.phase)
