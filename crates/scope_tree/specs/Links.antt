-- Links: the scope that ends another one when it ends.
use Rattle.std.specs.Prelude.{◌≡◌, ◌||◌, ℕ, List, map, Option, Some, None, if◌then◌else◌}
use Rattle.run_model.specs.declared.scopes.Scope.{Scope}
use Rattle.run_model.specs.Scopes.{is_root, is_detached}
use Rattle.scope_tree.specs.Chains.{Places}
use Rattle.scope_tree.specs.Names.{names_of, AreNamed}

-- The scope whose end also ends this one. Root and detached scopes have no such scope.
abbrev pub link_of : Scope → Option ℕ
link_of row = if is_root row.kind || is_detached row.kind then None else Some row.parent

-- The links of all scopes.
abbrev pub links_of : List Scope → List (Option ℕ)
links_of rows = map link_of rows

-- These places are the names and the links of the rows, each with this capacity.
pub record AreFound (rows : List Scope) (capacity : ℕ) (names links : Places) : Type 0 where
  pub named : AreNamed (names_of rows) names.keys
  pub linked : links.keys ≡ links_of rows
  pub names_fit : names.capacity ≡ capacity
  pub links_fit : links.capacity ≡ capacity
