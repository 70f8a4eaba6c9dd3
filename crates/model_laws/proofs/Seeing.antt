-- The answers to questions about a row.
use Rattle.run_model.proofs.Common.{◌≡◌, ℕ, Some, slice_get, refl, option_map, State, is_admitted}
use Rattle.run_model.proofs.Common.{phase_by, group_look_of, task_look_of}
use Rattle.run_model.specs.declared.scopes.Scope.{Scope}
use Rattle.run_model.specs.declared.groups.Group.{Group}
use Rattle.run_model.specs.declared.tasks.Task.{Task}
use Rattle.model_laws.specs.Answers.{seen_name, task_seen}

pub scope_seen : (q : State) (s : ℕ) (row : Scope) → slice_get q.tree.scopes s ≡ Some row
    → seen_name q s ≡ Some row.name
scope_seen q s row found = rw found refl

pub group_called : (q : State) (g : ℕ) (row : Group) → slice_get q.work.groups g ≡ Some row
    → option_map (λ look. look.name) (group_look_of q g) ≡ Some row.name
group_called q g row found = rw found refl

pub group_lives : (q : State) (g : ℕ) (row : Group) → slice_get q.work.groups g ≡ Some row
    → option_map (λ look. look.scope) (group_look_of q g) ≡ Some row.scope
group_lives q g row found = rw found refl

pub group_waited : (q : State) (g : ℕ) (row : Group) → slice_get q.work.groups g ≡ Some row
    → option_map (λ look. look.waited) (group_look_of q g) ≡ Some row.waited
group_waited q g row found = rw found refl

pub group_reported : (q : State) (g : ℕ) (row : Group) → slice_get q.work.groups g ≡ Some row
    → option_map (λ look. look.error) (group_look_of q g) ≡ Some row.error
group_reported q g row found = rw found refl

pub task_found : (q : State) (n : ℕ) (row : Task) → slice_get q.work.tasks n ≡ Some row
    → task_look_of q n
    ≡ Some
    (task_seen row.group row.job row.argument (phase_by (is_admitted q.work n row) row.stage)
    row.retry_of)
task_found q n row found = rw found refl
