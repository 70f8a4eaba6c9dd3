-- Reaches: what a scope has from above and no event changes.
use Rattle.std.specs.Prelude.{◌≡◌, ◌≤◌, ℕ, Bool, true, false, List, length, Some, slice_get}
use Rattle.run_model.specs.declared.scopes.Kind.{Kind}
use Rattle.run_model.specs.declared.scopes.Kind.TheVariants as kind
use Rattle.run_model.specs.declared.scopes.Scope.{Scope}
use Rattle.run_model.specs.Scopes.{deadline_of, value_of}
use Rattle.scope_tree.specs.declared.indexes.reaches.Reach.{Reach}

-- A scope that a search for a value examines, or at which the search ends.
abbrev pub is_holder : Kind → Bool
is_holder kind.Root = true
is_holder (kind.Value key text) = true
is_holder _ = false

-- The deadline is that of scope s. The holder is root, or a scope that holds a value, at or above
-- s. Each key has the same value at the holder and at s.
pub record IsReach (rows : List Scope) (s : ℕ) (reach : Reach) : Type 0 where
  pub deadline : reach.deadline ≡ deadline_of rows s
  pub above : reach.holder ≤ s
  pub holds : (row : Scope) → slice_get rows reach.holder ≡ Some row
      → is_holder row.kind ≡ true
  pub values : (key : List ℕ) → value_of rows reach.holder key ≡ value_of rows s key

-- Each of these reaches is right.
abbrev pub AreReaches : List Scope → List Reach → Type 0
AreReaches rows reaches =
    (s : ℕ) (reach : Reach) → slice_get reaches s ≡ Some reach → IsReach rows s reach

-- Each scope has its reach, and it is right.
pub record AreReached (rows : List Scope) (reaches : List Reach) : Type 0 where
  pub same : length reaches ≡ length rows
  pub right : AreReaches rows reaches
