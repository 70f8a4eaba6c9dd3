-- Names: the chain to which a name belongs.
use Rattle.std.specs.Prelude.{◌≡◌, ℕ, ◌+◌, ◌*◌, ◌%◌, ◌/◌, List, map, Option, Some, slice_get}
use Rattle.std.specs.List.{fold}
use Rattle.run_model.specs.declared.scopes.Scope.{Scope}
use Rattle.scope_tree.specs.declared.indexes.chains.TheConstants.{CHAINS}
use Rattle.scope_tree.specs.declared.indexes.names.TheConstants.{FACTOR, SPAN}

-- The bytes of a name, mixed into one number.
abbrev pub mixed : List ℕ → ℕ
mixed name = fold (λ sum byte. ((sum + byte) * FACTOR) % SPAN) 0 name

-- The chain of a name.
abbrev pub home : List ℕ → ℕ
home name = mixed name / (SPAN / CHAINS)

-- The names of the scopes.
abbrev pub names_of : List Scope → List (List ℕ)
names_of rows = map (λ row. row.name) rows

-- The chains of the names.
abbrev pub homes_of : List (List ℕ) → List (Option ℕ)
homes_of names = map (λ name. Some (home name)) names

-- No two places have the same name.
abbrev pub AreDistinct : List (List ℕ) → Type 0
AreDistinct names = (s t : ℕ) (a b : List ℕ) → slice_get names s ≡ Some a
    → slice_get names t ≡ Some b → a ≡ b → s ≡ t

-- The names are distinct, and each is in its chain.
pub record AreNamed (names : List (List ℕ)) (keys : List (Option ℕ)) : Type 0 where
  pub distinct : AreDistinct names
  pub homes : keys ≡ homes_of names
