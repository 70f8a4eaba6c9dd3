-- The rows of groups and tasks.
use Rattle.std.specs.Prelude.{◌≡◌, ◌<◌, ◌≤◌, ◌++◌, ◌∷◌, [], ℕ, true, List, length, Option, Some}
use Rattle.std.specs.Prelude.{slice_get}
use Rattle.std.specs.Option.{IfSome}
use Rattle.run_model.specs.declared.bounds.TheConstants.{MOST_GROUPS}
use Rattle.run_model.specs.declared.tasks.Task.{Task}
use Rattle.run_model.specs.Layouts.{most_tasks}
use Rattle.run_model.specs.Rows.{new_task}
use Rattle.run_model.specs.State.{WorkState}
use Rattle.run_model.specs.Tasks.{is_running}
use Rattle.task_group.specs.Held.{fits_limit}

-- The work after a task was submitted, which may be a retry. Its row comes last.
abbrev pub submitted : ℕ → List ℕ → List ℕ → Option ℕ → WorkState → WorkState
submitted g job argument tried w =
    record w { tasks = w.tasks ++ new_task g job argument tried ∷ [] }

-- This row can be the next one: its group exists, the task that it retries exists, and it fits.
pub record HasPlace (w : WorkState) (row : Task) : Type 0 where
  pub known : row.group < length w.groups
  pub link : IfSome row.retry_of (λ m. m < length w.tasks)
  pub room : length w.tasks < most_tasks w.layout

-- The rows are within the limits, each task's group exists, and each running task is within its
-- group's limit.
pub record IsSound (w : WorkState) : Type 0 where
  pub few_groups : length w.groups ≤ MOST_GROUPS
  pub few_tasks : length w.tasks ≤ most_tasks w.layout
  pub grouped : (n : ℕ) (t : Task) → slice_get w.tasks n ≡ Some t → t.group < length w.groups
  pub admitted : (n : ℕ) (t : Task) → slice_get w.tasks n ≡ Some t → is_running t.stage ≡ true
      → fits_limit w n t ≡ true
