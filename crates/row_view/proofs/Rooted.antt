-- The rows of a tree begin with root.
use Rattle.run_model.proofs.Common.{◌≡◌, List, [], ◌∷◌, drop, Some, slice_get, sym, ap, same_Some}
use Rattle.run_model.proofs.Common.{none-some, root}
use Rattle.run_model.specs.declared.scopes.Scope.{Scope}

-- A list that begins with root is root and what is after it.
pub rooted_list : (rows : List Scope) → slice_get rows 0 ≡ Some root → root ∷ drop 1 rows ≡ rows
rooted_list [] e = absurd (none-some root e)
rooted_list (row ∷ rows) e = ap (λ r. r ∷ rows) (sym (same_Some row root e))
