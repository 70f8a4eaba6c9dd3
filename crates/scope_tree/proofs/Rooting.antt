-- A new tree, which has only root.
use Rattle.run_model.proofs.Common.{◌≡◌, ◌≤◌, ℕ, zero, suc, List, [], ◌∷◌, ◌++◌, Some, slice_get}
use Rattle.run_model.proofs.Common.{refl, arith, none-some, same_Some, most_scopes, root}
use Rattle.run_model.proofs.Common.{new_scope}
use Rattle.run_model.specs.declared.layouts.Layout.{Layout}
use Rattle.run_model.specs.declared.layouts.Layout.TheVariants.{Small, Large}
use Rattle.run_model.specs.declared.scopes.Scope.{Scope}
use Rattle.run_model.specs.declared.scopes.Kind.TheVariants as kind
use Rattle.scope_tree.proofs.Sounding.{AreSound, tree_of}

-- The rows after root was added to none.
pub root_pushed : (old new : List Scope) (row : Scope) (name : List ℕ) → new ≡ old ++ row ∷ []
    → old ≡ [] → row ≡ new_scope name 0 kind.Root → name ≡ root.name → new ≡ root ∷ []
root_pushed old new row name pushed none is called = rw (pushed, none, is, called) refl

only_root : (s : ℕ) (row : Scope) → slice_get (root ∷ []) s ≡ Some row → (s ≡ 0) × (root ≡ row)
only_root zero row found = (refl, same_Some root row found)
only_root (suc s) row found = absurd (none-some row found)

pub one_fits : (layout : Layout) → 1 ≤ most_scopes layout
one_fits Small = omega arith
one_fits Large = omega arith

pub root_sound : (layout : Layout) (clock : ℕ) → AreSound (tree_of layout clock (root ∷ []))
root_sound layout clock = record {
  few = one_fits layout;
  rooted = record { first = refl; alone = λ s row found is. (only_root s row found).0 };
  ordered = λ s row found below. (let same = (only_root s row found).1 in absurd cc);
  hits = λ s row hit found has. (let same = (only_root s row found).1 in absurd cc);
}
