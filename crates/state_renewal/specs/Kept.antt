-- What stays the same of kept rows.
use Rattle.std.specs.Prelude.{◌≡◌, ◌≢◌, ℕ, true, false, List, length, Some, None}
use Rattle.run_model.specs.declared.groups.Group.{Group}
use Rattle.run_model.specs.declared.scopes.Scope.{Scope}
use Rattle.run_model.specs.declared.tasks.Task.{Task}
use Rattle.run_model.specs.Rules.{HasRow}
use Rattle.run_model.specs.Scopes.{is_done, reason_of, cause_of, deadline_of, value_of}
use Rattle.run_model.specs.State.{State, scope_named, group_named}
use Rattle.run_model.specs.Tasks.{is_unfinished, phase_of, unfinished_in}
use Rattle.state_renewal.specs.Renewed.{new_number, keeps_scope, keeps_group, keeps_task}
use Rattle.state_renewal.specs.Renewed.{scope_renewed, group_renewed, task_renewed, renewed}

-- A question about scope m of the new rows has the same answer as one about scope s of the old
-- rows.
pub record AnswersAlike (old : List Scope) (s : ℕ) (new : List Scope) (m : ℕ) : Type 0 where
  pub done : is_done new m ≡ is_done old s
  pub reason : reason_of new m ≡ reason_of old s
  pub cause : cause_of new m ≡ cause_of old s
  pub deadline : deadline_of new m ≡ deadline_of old s
  pub values : (key : List ℕ) → value_of new m key ≡ value_of old s key

-- A kept scope has its row under its new number, and the same answers as before.
pub record ScopeStays (p : State) (s : ℕ) (row : Scope) : Type 0 where
  pub found : HasRow (renewed p).tree.scopes (new_number (keeps_scope p) s) (scope_renewed p row)
  pub answers : AnswersAlike p.tree.scopes s (renewed p).tree.scopes (new_number (keeps_scope p) s)

-- A kept group has its row under its new number, and as many unfinished tasks as before.
pub record GroupStays (p : State) (g : ℕ) (row : Group) : Type 0 where
  pub found : HasRow (renewed p).work.groups (new_number (keeps_group p) g) (group_renewed p row)
  pub unfinished : unfinished_in (new_number (keeps_group p) g) (renewed p).work.tasks
      ≡ unfinished_in g p.work.tasks

-- A kept task has its row under its new number, and the same phase as before.
pub record TaskStays (p : State) (n : ℕ) (row : Task) : Type 0 where
  pub found : HasRow (renewed p).work.tasks (new_number (keeps_task p) n) (task_renewed p row)
  pub phase : phase_of (renewed p).work (new_number (keeps_task p) n) ≡ phase_of p.work n

-- Whatever isn't finished is kept: each scope that isn't done, each group that wasn't waited for,
-- and each task that hasn't ended.
pub record KeepsUnfinished (p : State) : Type 0 where
  pub scopes : (s : ℕ) (row : Scope) → HasRow p.tree.scopes s row → is_done p.tree.scopes s ≡ false
      → keeps_scope p s ≡ true
  pub groups : (g : ℕ) (row : Group) → HasRow p.work.groups g row → row.waited ≡ false
      → keeps_group p g ≡ true
  pub tasks : (n : ℕ) (row : Task) → HasRow p.work.tasks n row → is_unfinished row.stage ≡ true
      → keeps_task p n ≡ true

-- The names of the kept rows are taken, each is found under its new number, and every other name is
-- free.
pub record AreNamesKept (p : State) : Type 0 where
  pub scopes : (s : ℕ) (row : Scope) → HasRow p.tree.scopes s row → keeps_scope p s ≡ true
      → scope_named (renewed p).tree row.name ≡ Some (new_number (keeps_scope p) s)
  pub groups : (g : ℕ) (row : Group) → HasRow p.work.groups g row → keeps_group p g ≡ true
      → group_named (renewed p).work row.name ≡ Some (new_number (keeps_group p) g)
  pub other_scopes : (name : List ℕ)
      → ((s : ℕ) (row : Scope) → HasRow p.tree.scopes s row → keeps_scope p s ≡ true
      → row.name ≢ name)
      → scope_named (renewed p).tree name ≡ None
  pub other_groups : (name : List ℕ)
      → ((g : ℕ) (row : Group) → HasRow p.work.groups g row → keeps_group p g ≡ true
      → row.name ≢ name)
      → group_named (renewed p).work name ≡ None

-- The renewed state has as many rows as are kept.
pub record IsRoomKept (p : State) : Type 0 where
  pub scopes : length (renewed p).tree.scopes
      ≡ new_number (keeps_scope p) (length p.tree.scopes)
  pub groups : length (renewed p).work.groups
      ≡ new_number (keeps_group p) (length p.work.groups)
  pub tasks : length (renewed p).work.tasks ≡ new_number (keeps_task p) (length p.work.tasks)
