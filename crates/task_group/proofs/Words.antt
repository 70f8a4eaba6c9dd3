-- Definitions that only the proofs use.
use Rattle.run_model.proofs.Common.{◌≡◌, ◌++◌, ◌∷◌, [], ◌&&◌, ℕ, Bool, false, List, Option, find}
use Rattle.run_model.proofs.Common.{length, slice_get, range_with_len, option_and_then, option_map}
use Rattle.run_model.proofs.Common.{option_map_or, WorkState, after_end}
use Rattle.run_model.specs.declared.groups.Group.{Group}
use Rattle.run_model.specs.declared.tasks.Phase.{Phase}
use Rattle.run_model.specs.declared.tasks.Stage.{Stage}
use Rattle.run_model.specs.declared.tasks.Stage.TheVariants as stage
use Rattle.run_model.specs.declared.tasks.Task.{Task}
use Rattle.run_model.specs.WorkChanges.{groups_after as groups_after_error}
use Rattle.task_group.specs.Held.{fits_limit}
pub use Rattle.run_model.specs.Rows.{at_row, new_group, new_task}
pub use Rattle.run_model.specs.Tasks.{admits, has_stage, is_fresh, is_running, is_unfinished}
pub use Rattle.run_model.specs.Tasks.{phase_by, running_count, running_tasks, unfinished_in}
pub use Rattle.run_model.specs.WorkChanges.{group_of_task, with_error, with_stage}
pub use Rattle.task_group.specs.Held.{is_held}
pub use Rattle.task_group.specs.Rows.{IsSound, submitted}
pub use Rattle.task_group.specs.Cancels.{is_first_error, brings_first_error, cancels_by_end}

abbrev pub Work : Type 0
Work = WorkState

-- ---- tests

-- The limit of a group, by the rows of the groups alone.
abbrev pub limit_of : List Group → ℕ → Option ℕ
limit_of groups g = option_and_then (λ group. group.limit) (slice_get groups g)

-- An unfinished task that fits its group's limit is admitted.
abbrev pub is_admitted : Work → ℕ → Task → Bool
is_admitted w n task = fits_limit w n task

abbrev pub is_ready : Work → ℕ → Bool
is_ready w n =
    option_map_or (λ task. is_fresh task.stage && is_admitted w n task) (slice_get w.tasks n) false

abbrev pub first_ready : Work → Option ℕ
first_ready w = find (is_ready w) (range_with_len 0 (length w.tasks))

abbrev pub phase_of : Work → ℕ → Option Phase
phase_of w n =
    option_map (λ task. phase_by (is_admitted w n task) task.stage) (slice_get w.tasks n)

-- ---- changes

abbrev pub made : Group → Work → Work
made row w = record w { groups = w.groups ++ row ∷ [] }

abbrev pub limited : ℕ → Option ℕ → Work → Work
limited g limit w = record w { groups = at_row (λ row. record row { limit = limit }) g w.groups }

abbrev pub fresh_task : ℕ → List ℕ → List ℕ → Option ℕ → Task
fresh_task g job argument tried = new_task g job argument tried

abbrev pub started : ℕ → Work → Work
started n w = record w { tasks = at_row (with_stage stage.Running) n w.tasks }

abbrev pub group_of : Work → ℕ → ℕ
group_of w n = group_of_task w n

-- How a task ends: a stage that is none of an unfinished task, and an error or none.
pub record End : Type 0 where
  pub stage : Stage
  pub error : Option (List ℕ)
  pub done : is_unfinished stage ≡ false

abbrev pub stage_after : End → Stage
stage_after o = o.stage

abbrev pub groups_after : ℕ → End → List Group → List Group
groups_after g o groups = groups_after_error g o.error groups

abbrev pub finished : ℕ → End → Work → Work
finished n o w = after_end n o.stage o.error w
