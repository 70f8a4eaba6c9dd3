-- Rows that are marked by flags, one for each row, and their new numbers, which the flags give.
use Rattle.std.specs.Prelude.{◌≡◌, ◌<◌, ◌≤◌, ℕ, Bool, false, not, ◌&&◌, ◌||◌, List, length, map}
use Rattle.std.specs.Prelude.{Some, slice_get, slice_index_or}
use Rattle.std.specs.List.{list_any, range_with_len}
use Rattle.std.specs.Option.{option_map, option_map_or}
use Rattle.run_model.specs.declared.groups.Group.{Group}
use Rattle.run_model.specs.declared.scopes.Scope.{Scope}
use Rattle.run_model.specs.declared.tasks.Task.{Task}
use Rattle.run_model.specs.Scopes.{line}
use Rattle.run_model.specs.State.{State, TreeState, WorkState}
use Rattle.model_laws.specs.Hits.{is_on}
use Rattle.state_renewal.specs.Renewed.{kept, keeps_group, keeps_scope, keeps_task, new_number}

-- There is a row with this number, and it is flagged.
abbrev pub is_flagged : List Bool → ℕ → Bool
is_flagged flags n = slice_index_or flags n false

-- There are `many` flags, and the flag of each row says whether this is true of its number.
pub record AreFlags (holds : ℕ → Bool) (many : ℕ) (flags : List Bool) : Type 0 where
  pub each : length flags ≡ many
  pub say : (n : ℕ) → n < many → is_flagged flags n ≡ holds n

-- These are the new numbers of the rows if the flagged ones are kept, and after them the number of
-- kept rows.
abbrev pub AreNewNumbers : List Bool → List ℕ → Type 0
AreNewNumbers flags numbers = (n : ℕ) → n ≤ length flags
    → slice_get numbers n ≡ Some (new_number (is_flagged flags) n)

-- A row of the state is flagged exactly if it is kept.
pub record AreMarks (p : State) (scopes groups tasks : List Bool) : Type 0 where
  pub each_scope : length scopes ≡ length p.tree.scopes
  pub each_group : length groups ≡ length p.work.groups
  pub each_task : length tasks ≡ length p.work.tasks
  pub kept_scopes : (s : ℕ) → is_flagged scopes s ≡ keeps_scope p s
  pub kept_groups : (g : ℕ) → is_flagged groups g ≡ keeps_group p g
  pub kept_tasks : (n : ℕ) → is_flagged tasks n ≡ keeps_task p n

-- The state of these scopes and groups, before any event. Which rows are kept doesn't depend on the
-- count.
abbrev pub with_rows : TreeState → WorkState → State
with_rows tree work = record { count = 0; tree = tree; work = work }

-- ---- rows that are kept because of others

-- The scope is flagged, or above a flagged one.
abbrev pub is_above_flagged : List Scope → List Bool → ℕ → Bool
is_above_flagged rows flags s =
    list_any (λ t. is_flagged flags t && is_on s (line rows t)) (range_with_len 0 (length rows))

-- The group wasn't waited for, or its own scope is flagged.
abbrev pub group_stays : List Bool → Group → Bool
group_stays scopes group = not group.waited || not group.bare && is_flagged scopes group.scope

-- There is a group with this number, and it stays.
abbrev pub group_stays_at : List Bool → List Group → ℕ → Bool
group_stays_at scopes groups g = option_map_or (group_stays scopes) (slice_get groups g) false

-- There is a task with this number, and its group is flagged.
abbrev pub task_stays_at : List Bool → List Task → ℕ → Bool
task_stays_at groups tasks n =
    option_map_or (λ task. is_flagged groups task.group) (slice_get tasks n) false

-- ---- rows by the new numbers

-- The scope with the new number of its parent.
abbrev pub scope_by : List Bool → Scope → Scope
scope_by scopes row = record row { parent = new_number (is_flagged scopes) row.parent }

-- The group with the new number of its scope.
abbrev pub group_by : List Bool → Group → Group
group_by scopes row = record row { scope = new_number (is_flagged scopes) row.scope }

-- The task with the new numbers of its group and of the task that it retries.
abbrev pub task_by : List Bool → List Bool → Task → Task
task_by groups tasks row = record row {
  group = new_number (is_flagged groups) row.group;
  retry_of = option_map (new_number (is_flagged tasks)) row.retry_of;
}

-- The flagged rows, each with its new numbers.
abbrev pub rows_left : {X : Type 0} → List Bool → (X → X) → List X → List X
rows_left flags renumber rows = map renumber (kept (is_flagged flags) rows)
