-- A state goes on: scopes and groups stay, and tasks are added.
use Rattle.std.proofs.Common.{[], ◌∷◌}
use Rattle.std.proofs.Common.{◌≡◌, ◌<◌, ◌≤◌, ◌∙◌, ◌&&◌, ℕ, Bool, false, List, Option, Some}
use Rattle.std.proofs.Common.{None, length, slice_get, ap, refl, sym, arith}
use Rattle.std.specs.List.{list_all}
use Rattle.std.specs.Prelude.{is_some}
use Rattle.std.specs.Option.{option_map, option_map_or}
use Rattle.std.specs.Str.{bytes_eq}
use Rattle.run_model.specs.declared.groups.Group.{Group}
use Rattle.run_model.specs.declared.tasks.Stage.{Stage}
use Rattle.run_model.specs.declared.tasks.Stage.TheVariants.{Fresh}
use Rattle.run_model.specs.declared.tasks.Task.{Task}
use Rattle.run_model.specs.State.{State, TreeState}
use Rattle.run_model.specs.Tasks.{has_stage}
use Rattle.run_model.specs.WorkChanges.{with_stage}
use Rattle.night_drive.specs.declared.names.Names.{Names}
use Rattle.night_drive.specs.Searches.{last_below}
use Rattle.night_drive.specs.Seen.{is_owned}
use Rattle.night_drive.specs.Turns.{is_task}
use Rattle.night_drive.proofs.Searching.{last_alike}
use Rattle.night_drive.proofs.Staying.{KeepsGroups, KeepsScopes, owned_stays, same_groups}
use Rattle.night_drive.proofs.Staying.{same_scopes, unhit, unmarked}
use Rattle.drive_steps.specs.Rooms.{are_housed, last_group}

-- The row of a task, whatever its stage.
abbrev pub unstaged : Task → Task
unstaged row = with_stage Fresh row

-- The second state has come from the first one: it has the same scopes and groups, but for hits and
-- errors, and all tasks of the first one, but for their stages.
pub record Came (p q : State) : Type 0 where
  pub scopes : KeepsScopes p.tree.scopes q.tree.scopes
  pub groups : KeepsGroups p.work.groups q.work.groups
  pub sized : length q.work.groups ≡ length p.work.groups
  pub rows : (n : ℕ) → n < length p.work.tasks
      → option_map unstaged (slice_get q.work.tasks n)
      ≡ option_map unstaged (slice_get p.work.tasks n)
  pub grown : length p.work.tasks ≤ length q.work.tasks

-- And the tasks of the first one are at the same stages as before.
pub record Goes (p q : State) : Type 0 where
  pub came : Came p q
  pub tasks : (n : ℕ) → n < length p.work.tasks
      → slice_get q.work.tasks n ≡ slice_get p.work.tasks n

pub came_nowhere : (p : State) → Came p p
came_nowhere p = record {
  scopes = same_scopes p.tree.scopes;
  groups = same_groups p.work.groups;
  sized = refl;
  rows = λ n below. refl;
  grown = omega arith;
}

pub came_on : (p q r : State) → Came p q → Came q r → Came p r
came_on p q r first second = record {
  scopes = λ s. second.scopes s ∙ first.scopes s;
  groups = λ g. second.groups g ∙ first.groups g;
  sized = second.sized ∙ first.sized;
  rows = λ n below. second.rows n (omega (arith, below, first.grown)) ∙ first.rows n below;
  grown = omega (arith, first.grown, second.grown);
}

pub goes_nowhere : (p : State) → Goes p p
goes_nowhere p = record { came = came_nowhere p; tasks = λ n below. refl }

pub goes_on : (p q r : State) → Goes p q → Goes q r → Goes p r
goes_on p q r first second = record {
  came = came_on p q r first.came second.came;
  tasks = λ n below.
      second.tasks n (omega (arith, below, first.came.grown)) ∙ first.tasks n below;
}

-- Where scopes and groups are as they are, and tasks are as they were, a state goes on.
pub goes_by : (p q : State) → KeepsScopes p.tree.scopes q.tree.scopes
    → KeepsGroups p.work.groups q.work.groups → length q.work.groups ≡ length p.work.groups
    → ((n : ℕ) → n < length p.work.tasks
    → slice_get q.work.tasks n ≡ slice_get p.work.tasks n)
    → length p.work.tasks ≤ length q.work.tasks → Goes p q
goes_by p q scopes groups sized tasks grown = record {
  came = record {
    scopes = scopes;
    groups = groups;
    sized = sized;
    rows = λ n below. ap (option_map unstaged) (tasks n below);
    grown = grown;
  };
  tasks = tasks;
}

pub scopes_same : (p q : State) → q.tree ≡ p.tree → KeepsScopes p.tree.scopes q.tree.scopes
scopes_same p q same s =
    ap (λ (t : TreeState). option_map unhit (slice_get t.scopes s)) same

pub groups_same : (p q : State) → q.work.groups ≡ p.work.groups
    → KeepsGroups p.work.groups q.work.groups
groups_same p q same g =
    ap (λ (groups : List Group). option_map unmarked (slice_get groups g)) same

-- A group belongs to the same night as before.
pub owned_goes : (p q : State) → Came p q → (night : Option (List ℕ)) (group : List ℕ) (g : ℕ)
    → is_owned q night group g ≡ is_owned p night group g
owned_goes p q came night group g = owned_stays p q came.scopes came.groups night group g

-- Each group of the plan has a group of the store, as before.
pub housed_alike : (p q : State) (names : Names)
    → ((group : List ℕ) (g : ℕ)
    → is_owned q names.night group g ≡ is_owned p names.night group g)
    → length q.work.groups ≡ length p.work.groups → are_housed q names ≡ are_housed p names
housed_alike p q names owned sized = by_group names.groups.items
  where
    last : (group : List ℕ)
        → last_group q names.night group ≡ last_group p names.night group
    last group =
        last_alike (is_owned q names.night group) (is_owned p names.night group) (owned group)
        (length q.work.groups)
        ∙ ap (last_below (is_owned p names.night group)) sized

    by_group : (groups : List (List ℕ))
        → list_all (λ group. is_some (last_group q names.night group)) groups
        ≡ list_all (λ group. is_some (last_group p names.night group)) groups
    by_group [] = refl
    by_group (group ∷ groups) =
        ap (λ (o : Option ℕ). is_some o
        && list_all (λ other. is_some (last_group q names.night other)) groups) (last group)
        ∙ ap (λ b. is_some (last_group p names.night group) && b) (by_group groups)

pub housed_goes : (p q : State) → Came p q → (names : Names)
    → are_housed q names ≡ are_housed p names
housed_goes p q came names =
    housed_alike p q names (owned_goes p q came names.night) came.sized

-- A row is a task of the command with this key, in a group of this name and in this night.
abbrev pub row_is : State → (night : Option (List ℕ)) → (group key : List ℕ) → Task → Bool
row_is p night group key task =
    bytes_eq task.argument key && is_owned p night group task.group

row_goes : (p q : State) → Came p q → (night : Option (List ℕ)) (group key : List ℕ)
    (o : Option Task)
    → option_map_or (row_is q night group key) o false
    ≡ option_map_or (row_is p night group key) o false
row_goes p q came night group key None = refl
row_goes p q came night group key (Some task) =
    ap (λ b. bytes_eq task.argument key && b) (owned_goes p q came night group task.group)

-- A task belongs to the same command as before.
pub task_came : (p q : State) → Came p q → (night : Option (List ℕ)) (group key : List ℕ) (n : ℕ)
    → n < length p.work.tasks
    → is_task q night group key n ≡ is_task p night group key n
task_came p q came night group key n below =
    row_goes p q came night group key (slice_get q.work.tasks n)
    ∙ without (slice_get q.work.tasks n)
    ∙ ap (λ o. option_map_or (row_is p night group key) o false) (came.rows n below)
    ∙ sym (without (slice_get p.work.tasks n))
  where
    without : (o : Option Task)
        → option_map_or (row_is p night group key) o false
        ≡ option_map_or (row_is p night group key) (option_map unstaged o) false
    without None = refl
    without (Some task) = refl

pub task_goes : (p q : State) → Goes p q → (night : Option (List ℕ)) (group key : List ℕ) (n : ℕ)
    → n < length p.work.tasks
    → is_task q night group key n ≡ is_task p night group key n
task_goes p q goes night group key n below = task_came p q goes.came night group key n below

-- It is at the same stage as before.
pub stage_goes : (p q : State) → Goes p q → (test : Stage → Bool) (n : ℕ)
    → n < length p.work.tasks → has_stage test q.work n ≡ has_stage test p.work n
stage_goes p q goes test n below =
    ap (λ o. option_map_or (λ (task : Task). test task.stage) o false) (goes.tasks n below)
