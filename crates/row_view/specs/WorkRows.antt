-- The rows of the work in an image: the work that the bytes spell.
use Rattle.std.specs.Prelude.{◌≡◌, ℕ, zero, suc, ◌+◌, ◌==◌, nat_lt, nat_le, Bool, true, false, not}
use Rattle.std.specs.Prelude.{◌&&◌, ◌||◌, if◌then◌else◌, List, [], ◌∷◌, ◌++◌, length, Option, Some}
use Rattle.std.specs.Prelude.{None, is_none, is_some, position, slice_get, IsTrue}
use Rattle.std.specs.List.{flat_map, list_any, AllByRecursion}
use Rattle.std.specs.Option.{option_map_or}
use Rattle.std.specs.Str.{bytes_eq}
use Rattle.run_model.specs.declared.bounds.TheConstants.{MOST_GROUPS}
use Rattle.run_model.specs.declared.layouts.Layout.{Layout}
use Rattle.run_model.specs.declared.groups.Group.{Group}
use Rattle.run_model.specs.declared.tasks.Task.{Task}
use Rattle.run_model.specs.Layouts.{most_tasks}
use Rattle.run_model.specs.RuleParts.{AreWorkRules}
use Rattle.run_model.specs.Rules.{has_task_error}
use Rattle.run_model.specs.State.{WorkState}
use Rattle.run_model.specs.Tasks.{is_running, is_interrupted, is_admitted, unfinished_in}
use Rattle.run_model.specs.Tasks.{is_retry_of}
use Rattle.row_view.specs.Fields.{Reader, ◌>>=◌}
use Rattle.row_view.specs.declared.heads.ImageHead.{ImageHead}
use Rattle.row_view.specs.Image.{group_bytes, task_bytes, is_kept_group, is_kept_task}
use Rattle.row_view.specs.RowReading.{group_row_at, task_at}

-- ---- rows that are tested one by one

-- These rows, and this many more, each of which passes the test against the rows before it.
abbrev pub more_at : {X : Type 0} → Reader X → (List X → X → Bool) → ℕ → List X → Reader (List X)
more_at read test zero rows bytes = Some (rows, bytes)
more_at read test (suc n) rows bytes = do
  row ← read bytes
  if test rows row.0 then more_at read test n (rows ++ row.0 ∷ []) row.1 else None

-- Each row passes the test with its number.
abbrev pub each_passes : {X : Type 0} → (ℕ → X → Bool) → ℕ → List X → Bool
each_passes test n [] = true
each_passes test n (row ∷ rows) = test n row && each_passes test (n + 1) rows

-- ---- the tests

-- No group before this one has the same name.
abbrev pub has_new_name : List Group → Group → Bool
has_new_name rows row = is_none (position (λ r. bytes_eq row.name r.name) rows)

-- The new task can retry the old one: the old one was interrupted, and both have the same group,
-- job and argument.
abbrev pub can_retry : Task → Task → Bool
can_retry new old =
    is_interrupted old.stage && new.group == old.group && bytes_eq new.job old.job
    && bytes_eq new.argument old.argument

-- If the new task is a retry of task m, then m is an earlier task that it can retry, and no earlier
-- task is a retry of m.
abbrev pub is_linked : List Task → Task → Bool
is_linked tasks row =
    option_map_or
    (λ m. option_map_or (can_retry row) (slice_get tasks m) false
    && not (list_any (is_retry_of m) tasks))
    row.retry_of true

-- The work of these groups and tasks.
abbrev pub work_made : Layout → List Group → List Task → WorkState
work_made layout groups tasks = record { layout = layout; groups = groups; tasks = tasks }

-- The task's group exists, the task is admitted if it is running, and its link is right.
abbrev pub can_come : Layout → List Group → List Task → Task → Bool
can_come layout groups tasks row =
    nat_lt row.group (length groups)
    && (not (is_running row.stage)
    || is_admitted (work_made layout groups tasks) (length tasks) row)
    && is_linked tasks row

-- Both are true, or both are false.
abbrev pub both_or_neither : Bool → Bool → Bool
both_or_neither true b = b
both_or_neither false b = not b

-- A group that was waited for has no unfinished task, and a group has an error exactly if a task of
-- it ended in one.
abbrev pub is_settled : WorkState → ℕ → Group → Bool
is_settled w g row =
    (not row.waited || unfinished_in g w.tasks == 0)
    && both_or_neither (is_some row.error) (has_task_error w g)

-- The work, if each group is settled.
abbrev pub settled_at :
    Layout → List Group → List Task × List ℕ → Option (WorkState × List ℕ)
settled_at layout groups tasks =
    if each_passes (is_settled (work_made layout groups tasks.0)) 0 groups
    then Some (work_made layout groups tasks.0, tasks.1)
    else None

-- The groups and tasks with whose rows the bytes after the scopes begin.
unfoldable pub work_rows_at : Layout → ImageHead → Reader WorkState
work_rows_at layout head bytes = do
  groups ← more_at group_row_at has_new_name head.groups [] bytes
  tasks ← more_at (task_at head.version) (can_come layout groups.0) head.tasks [] groups.1
  settled_at layout groups.0 tasks

-- The numbers of groups and tasks are within the layout's limits.
abbrev pub has_work_room : Layout → ImageHead → Bool
has_work_room layout head =
    nat_le head.groups MOST_GROUPS && nat_le head.tasks (most_tasks layout)

-- The work, in a store of this layout, with whose rows the bytes after the scopes begin.
unfoldable pub work_at : Layout → ImageHead → Reader WorkState
work_at layout head bytes =
    if has_work_room layout head then work_rows_at layout head bytes else None

-- The bytes begin with the rows of this work, which has this layout and keeps its rules, and `rest`
-- comes after them.
pub record AreWorkRows
    (layout : Layout) (head : ImageHead) (bytes : List ℕ) (w : WorkState) (rest : List ℕ)
    : Type 0 where
  pub has_layout : w.layout ≡ layout
  pub groups : length w.groups ≡ head.groups
  pub tasks : length w.tasks ≡ head.tasks
  pub rules : AreWorkRules w
  pub kept_groups : AllByRecursion (λ row. IsTrue (is_kept_group row)) w.groups
  pub kept_tasks : AllByRecursion (λ row. IsTrue (is_kept_task head.version row)) w.tasks
  pub spelled : bytes
      ≡ flat_map group_bytes w.groups ++ (flat_map (task_bytes head.version) w.tasks ++ rest)
