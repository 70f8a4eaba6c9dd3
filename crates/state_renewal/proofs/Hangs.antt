-- A part that is closed: it holds each scope with its parent, each group with its scope, and each
-- task with its group. Each group outside the part was waited for. The kept part is closed.
use Rattle.run_model.proofs.Common.{◌≡◌, ℕ, true, false, List, Some, slice_get, both_ways}
use Rattle.run_model.proofs.Common.{true_from_ne_false, IsConsistent, is_root, State, WorkState}
use Rattle.run_model.specs.declared.groups.Group.{Group}
use Rattle.run_model.specs.declared.scopes.Scope.{Scope}
use Rattle.run_model.specs.declared.tasks.Task.{Task}
use Rattle.state_renewal.specs.Renewed.{Part, keeps_group, kept_part, state_renumbered}
use Rattle.state_renewal.proofs.Keeps.{owner_kept, parent_kept, scope_kept, task_is_kept}
use Rattle.state_renewal.proofs.Keeps.{unwaited_kept}

-- Each row has this of its number and itself.
abbrev pub EachRow : {X : Type 0} → (ℕ → X → Type 0) → List X → Type 0
EachRow {X = X} P rows = (n : ℕ) (row : X) → slice_get rows n ≡ Some row → P n row

-- A scope's parent goes on with it.
abbrev pub WithParent : Part → ℕ → Scope → Type 0
WithParent part s row = is_root row.kind ≡ false → part.scopes s ≡ true
    → part.scopes row.parent ≡ true

-- A group's scope goes on with the group, and the group with its own scope. If the group doesn't go
-- on, it was waited for.
pub record WithScope (part : Part) (g : ℕ) (row : Group) : Type 0 where
  pub scope : part.groups g ≡ true → part.scopes row.scope ≡ true
  pub own : row.bare ≡ false → part.scopes row.scope ≡ true → part.groups g ≡ true
  pub gone : part.groups g ≡ false → row.waited ≡ true

-- A task goes on exactly if its group does.
abbrev pub WithGroup : Part → ℕ → Task → Type 0
WithGroup part n row = part.tasks n ≡ part.groups row.group

abbrev pub ScopesHang : Part → List Scope → Type 0
ScopesHang part rows = EachRow (WithParent part) rows

abbrev pub TasksHang : Part → List Task → Type 0
TasksHang part rows = EachRow (WithGroup part) rows

pub record WorkHangs (part : Part) (w : WorkState) : Type 0 where
  pub groups : EachRow (WithScope part) w.groups
  pub tasks : TasksHang part w.tasks

pub record Hangs (part : Part) (p : State) : Type 0 where
  pub scopes : ScopesHang part p.tree.scopes
  pub work : WorkHangs part p.work

-- The state and the part of it by the new numbers both keep the rules, and the part is closed.
pub record AreBoth (part : Part) (p : State) : Type 0 where
  pub old : IsConsistent p
  pub new : IsConsistent (state_renumbered part p)
  pub hangs : Hangs part p

pub kept_hangs : (p : State) → IsConsistent p → Hangs (kept_part p) p
kept_hangs p consistent = record {
  scopes = λ s row found below is. parent_kept p s row consistent.numbered.ordered found below is;
  work = record {
    groups =
        λ g row found.
        record {
          scope = λ is. scope_kept p g row found (consistent.numbered.scopes g row found) is;
          own = λ own is. owner_kept p g row found own is;
          gone =
              λ gone.
              true_from_ne_false row.waited
              (λ is.
              both_ways (keeps_group p g) gone (unwaited_kept p g row found is));
        };
    tasks = task_is_kept p;
  };
}
