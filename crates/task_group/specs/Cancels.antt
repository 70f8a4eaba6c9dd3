-- The scopes that a change asks its caller to cancel.
use Rattle.std.specs.Prelude.{ℕ, ◌==◌, Bool, false, not, ◌&&◌, if◌then◌else◌, List, take, filter}
use Rattle.std.specs.Prelude.{filter_map, Option, Some, None, is_none, slice_get, length}
use Rattle.std.specs.List.{list_any, range_with_len}
use Rattle.run_model.specs.declared.groups.Group.{Group}
use Rattle.run_model.specs.State.{WorkState}
use Rattle.run_model.specs.Step.{own_scope}
use Rattle.run_model.specs.Tasks.{is_running, has_stage}
use Rattle.run_model.specs.WorkChanges.{group_of_task}

-- The group isn't bare and has no error yet.
abbrev pub is_first_error : Option Group → Bool
is_first_error None = false
is_first_error (Some group) = not group.bare && is_none group.error

-- The end of a task has an error, which is the first one of this group, and the group isn't bare.
abbrev pub brings_first_error : Option (List ℕ) → Option Group → Bool
brings_first_error None group = false
brings_first_error (Some text) group = is_first_error group

-- The scope that the end of a task asks the caller to cancel: the group's own, if the end brings
-- the first error of a group that isn't bare.
abbrev pub cancels_by_end : ℕ → Option (List ℕ) → WorkState → Option ℕ
cancels_by_end n error w =
    if brings_first_error error (slice_get w.groups (group_of_task w n)) then own_scope w
    (group_of_task w n)
    else None

-- A task of this group with a number below n is running.
abbrev pub runs_before : WorkState → ℕ → ℕ → Bool
runs_before w g n = list_any (λ task. task.group == g && is_running task.stage) (take n w.tasks)

-- Task n is the running task of its group with the lowest number, and the group isn't bare and has
-- no error.
abbrev pub ends_its_group : WorkState → ℕ → Bool
ends_its_group w n =
    has_stage is_running w n && not (runs_before w (group_of_task w n) n)
    && is_first_error (slice_get w.groups (group_of_task w n))

-- The scopes that a restart asks the caller to cancel: those of the groups that have a running task
-- and no error, and aren't bare. Each comes once, in the order of the groups' first running tasks.
abbrev pub cancels_by_restart : WorkState → List ℕ
cancels_by_restart w =
    filter_map (λ n. own_scope w (group_of_task w n))
    (filter (ends_its_group w) (range_with_len 0 (length w.tasks)))
