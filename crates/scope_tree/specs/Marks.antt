-- Marks: the mark of a scope is the number of the scope whose own hit ended it.
use Rattle.std.specs.Prelude.{◌≡◌, ◌<◌, ◌≤◌, ℕ, List, length, Option, Some, None, slice_index_or}
use Rattle.std.specs.Prelude.{slice_get, false}
use Rattle.std.specs.Option.{option_map, option_and_then}
use Rattle.run_model.specs.declared.bounds.TheConstants.{MOST_SCOPES}
use Rattle.run_model.specs.declared.scopes.Hit.{Hit}
use Rattle.run_model.specs.declared.scopes.Scope.{Scope}
use Rattle.run_model.specs.Rows.{at_row}
use Rattle.run_model.specs.TreeChanges.{with_hit}
use Rattle.run_model.specs.Scopes.{AreOrdered, own_hit, ending, is_detached}
use Rattle.scope_tree.specs.Links.{links_of}

-- The mark of scope s; none, too, if there is no such scope.
abbrev pub mark_of : List (Option ℕ) → ℕ → Option ℕ
mark_of marks s = slice_index_or marks s None

-- A live scope has no mark. The mark of a done scope names the scope whose own hit ended it.
abbrev pub IsMark : List Scope → ℕ → Option ℕ → Type 0
IsMark rows s None = ending rows s ≡ None
IsMark rows s (Some n) = (hit : Hit) × (ending rows s ≡ Some hit) × (own_hit rows n ≡ Some hit)

-- Each scope has its mark, and the mark is right.
pub record AreMarked (rows : List Scope) (marks : List (Option ℕ)) : Type 0 where
  pub same : length marks ≡ length rows
  pub right : (s : ℕ) → s < length rows → IsMark rows s (mark_of marks s)

-- The rows are ordered and within the limit, and each has its mark and its link.
pub record AreKept (rows : List Scope) (marks links : List (Option ℕ)) : Type 0 where
  pub ordered : AreOrdered rows
  pub few : length rows ≤ MOST_SCOPES
  pub marked : AreMarked rows marks
  pub linked : links ≡ links_of rows

-- The hit that a mark names, with the number of its scope.
abbrev pub marked_hit : List Scope → Option ℕ → Option (ℕ × Hit)
marked_hit rows mark = option_and_then (λ n. option_map (λ hit. (n, hit)) (own_hit rows n)) mark

-- Scope `at` isn't detached, and if it gets this hit, each scope that was done is still done by the
-- same hit.
pub record Struck (rows : List Scope) (at : ℕ) (hit : Hit) : Type 0 where
  pub joins : (row : Scope) → slice_get rows at ≡ Some row → is_detached row.kind ≡ false
  pub stays : (s : ℕ) (h : Hit) → s < length rows → ending rows s ≡ Some h
      → ending (at_row (with_hit hit) at rows) s ≡ Some h
