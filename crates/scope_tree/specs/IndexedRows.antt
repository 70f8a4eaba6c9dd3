-- Rows, and the indexes that spare a walk over all of them.
use Rattle.std.specs.Prelude.{◌≡◌, ◌≤◌, ℕ, List, length, Option}
use Rattle.run_model.specs.declared.bounds.TheConstants.{MOST_SCOPES}
use Rattle.run_model.specs.declared.scopes.Scope.{Scope}
use Rattle.run_model.specs.Scopes.{AreOrdered}
use Rattle.scope_tree.specs.Chains.{Places}
use Rattle.scope_tree.specs.Deadlines.{AreWaiting}
use Rattle.scope_tree.specs.Links.{AreFound}
use Rattle.scope_tree.specs.Marks.{AreMarked}
use Rattle.scope_tree.specs.Reaches.{AreReached}
use Rattle.scope_tree.specs.declared.indexes.reaches.Reach.{Reach}

-- The rows of scopes in the order of their numbers, and the greatest number of rows.
pub record Numbered : Type 0 where
  pub capacity : ℕ
  pub rows : List Scope

-- The rows are ordered and within the limit. Their marks, names, links and reaches are right, and
-- so are the deadlines that haven't passed yet. The rows and the indexes can grow up to the limit,
-- but not further.
pub record IsIndexed
    (of : Numbered) (marks : List (Option ℕ)) (names links : Places) (due : List ℕ)
    (reaches : List Reach) (mark_capacity reach_capacity : ℕ) : Type 0 where
  pub few : length of.rows ≤ of.capacity
  pub most : of.capacity ≤ MOST_SCOPES
  pub ordered : AreOrdered of.rows
  pub marked : AreMarked of.rows marks
  pub found : AreFound of.rows of.capacity names links
  pub waiting : AreWaiting of.rows due
  pub reached : AreReached of.rows reaches
  pub marks_fit : mark_capacity ≡ of.capacity
  pub reaches_fit : reach_capacity ≡ of.capacity
