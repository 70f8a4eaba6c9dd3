-- The part of a state that a renewal keeps: everything that isn't finished, and everything on which
-- that depends.
use Rattle.std.specs.Prelude.{ℕ, zero, suc, ◌==◌, Bool, true, false, not, ◌&&◌, ◌||◌, List, [], ◌∷◌}
use Rattle.std.specs.Prelude.{length, map, nat_le, slice_get}
use Rattle.std.specs.List.{list_any, range_with_len}
use Rattle.std.specs.Option.{option_map, option_map_or}
use Rattle.run_model.specs.declared.scopes.Scope.{Scope}
use Rattle.run_model.specs.declared.groups.Group.{Group}
use Rattle.run_model.specs.declared.tasks.Task.{Task}
use Rattle.run_model.specs.declared.layouts.Layout.{Layout}
use Rattle.run_model.specs.Layouts.{most_scopes, most_tasks}
use Rattle.run_model.specs.State.{State, TreeState, WorkState}
use Rattle.run_model.specs.Scopes.{line, is_done}
use Rattle.model_laws.specs.Hits.{is_on}

-- ---- the kept rows

-- This is the scope of a group that wasn't waited for.
abbrev pub hosts_unwaited : WorkState → ℕ → Bool
hosts_unwaited w s = list_any (λ group. not group.waited && group.scope == s) w.groups

-- A scope is needed if it isn't done, or if it is the scope of a group that wasn't waited for.
abbrev pub is_needed : State → ℕ → Bool
is_needed p s = not (is_done p.tree.scopes s) || hosts_unwaited p.work s

-- The numbers of all scopes, in ascending order.
abbrev pub scope_numbers : TreeState → List ℕ
scope_numbers t = range_with_len 0 (length t.scopes)

-- A scope is kept if it is needed, or is above a needed one.
abbrev pub keeps_scope : State → ℕ → Bool
keeps_scope p s =
    list_any (λ t. is_needed p t && is_on s (line p.tree.scopes t)) (scope_numbers p.tree)

-- A group is kept if it wasn't waited for, or if its own scope is kept.
abbrev pub keeps_group : State → ℕ → Bool
keeps_group p g =
    option_map_or (λ group. not group.waited || not group.bare && keeps_scope p group.scope)
    (slice_get p.work.groups g) false

-- A task is kept if its group is.
abbrev pub keeps_task : State → ℕ → Bool
keeps_task p n =
    option_map_or (λ task. keeps_group p task.group) (slice_get p.work.tasks n) false

-- ---- new numbers

-- One more, if this is true.
abbrev pub one_more_if : Bool → ℕ → ℕ
one_more_if true n = suc n
one_more_if false n = n

-- The new number of a row is the number of kept rows before it.
abbrev pub new_number : (ℕ → Bool) → ℕ → ℕ
new_number keeps zero = zero
new_number keeps (suc n) = one_more_if (keeps n) (new_number keeps n)

-- The row and the others after it, or only the others if the row isn't kept.
abbrev pub cons_if : {X : Type 0} → Bool → X → List X → List X
cons_if true row rows = row ∷ rows
cons_if false row rows = rows

-- The kept rows, in order.
abbrev pub kept : {X : Type 0} → (ℕ → Bool) → List X → List X
kept keeps [] = []
kept keeps (row ∷ rows) = cons_if (keeps zero) row (kept (λ n. keeps (suc n)) rows)

-- ---- a state by the new numbers

-- Some scopes, groups and tasks, by number.
pub record Part : Type 0 where
  pub scopes : ℕ → Bool
  pub groups : ℕ → Bool
  pub tasks : ℕ → Bool

-- A scope with the new number of its parent. The rest of its row stays as it was.
abbrev pub scope_renumbered : Part → Scope → Scope
scope_renumbered part row = record row { parent = new_number part.scopes row.parent }

-- A group with the new number of its scope. The rest of its row stays as it was.
abbrev pub group_renumbered : Part → Group → Group
group_renumbered part row = record row { scope = new_number part.scopes row.scope }

-- A task with the new numbers of its group and of the task that it retries. The rest of its row
-- stays as it was.
abbrev pub task_renumbered : Part → Task → Task
task_renumbered part row = record row {
  group = new_number part.groups row.group;
  retry_of = option_map (new_number part.tasks) row.retry_of;
}

-- The rows of the part, in order, each with its new numbers.
abbrev pub rows_renumbered : {X : Type 0} → (ℕ → Bool) → (X → X) → List X → List X
rows_renumbered keeps renumber rows = map renumber (kept keeps rows)

-- The tree with the scopes of the part.
abbrev pub tree_renumbered : Part → TreeState → TreeState
tree_renumbered part t = record t
    { scopes = rows_renumbered part.scopes (scope_renumbered part) t.scopes }

-- The work with the groups and the tasks of the part.
abbrev pub work_renumbered : Part → WorkState → WorkState
work_renumbered part w = record w {
  groups = rows_renumbered part.groups (group_renumbered part) w.groups;
  tasks = rows_renumbered part.tasks (task_renumbered part) w.tasks;
}

-- The state with the rows of the part. Its count, clock and layout stay the same.
abbrev pub state_renumbered : Part → State → State
state_renumbered part p = record {
  count = p.count;
  tree = tree_renumbered part p.tree;
  work = work_renumbered part p.work;
}

-- ---- a renewed state

-- The part of a state that a renewal keeps.
abbrev pub kept_part : State → Part
kept_part p = record {
  scopes = keeps_scope p;
  groups = keeps_group p;
  tasks = keeps_task p;
}

-- A kept scope, by the new numbers.
abbrev pub scope_renewed : State → Scope → Scope
scope_renewed p = scope_renumbered (kept_part p)

-- A kept group, by the new numbers.
abbrev pub group_renewed : State → Group → Group
group_renewed p = group_renumbered (kept_part p)

-- A kept task, by the new numbers.
abbrev pub task_renewed : State → Task → Task
task_renewed p = task_renumbered (kept_part p)

-- A renewed state has the kept rows, by their new numbers.
abbrev pub renewed : State → State
renewed p = state_renumbered (kept_part p) p

-- The renewed state in this layout.
abbrev pub renewed_in : Layout → State → State
renewed_in layout p = record (renewed p) {
  tree = record (renewed p).tree { layout = layout };
  work = record (renewed p).work { layout = layout };
}

-- The scopes and the tasks of the state fit into a store of this layout. The groups fit into every
-- layout.
abbrev pub fits_in : Layout → State → Bool
fits_in layout p =
    nat_le (length p.tree.scopes) (most_scopes layout)
    && nat_le (length p.work.tasks) (most_tasks layout)
