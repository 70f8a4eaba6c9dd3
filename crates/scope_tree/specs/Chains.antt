-- Chains: the places with the same key, the last one first.
use Rattle.std.specs.Prelude.{◌≡◌, ◌<◌, ◌≤◌, ℕ, List, length, Option, Some, None}
use Rattle.std.specs.Prelude.{slice_get, slice_index_or, slice_set}
use Rattle.run_model.specs.declared.bounds.TheConstants.{MOST_SCOPES}
use Rattle.scope_tree.specs.declared.indexes.chains.TheConstants.{CHAINS}

-- The keys of places, in the order in which they were added, and the greatest number of places. A
-- place may have no key.
pub record Places : Type 0 where
  pub capacity : ℕ
  pub keys : List (Option ℕ)

-- The last place before place n that has this key.
abbrev pub IsLast : List (Option ℕ) → ℕ → ℕ → Option ℕ → Type 0
IsLast keys key n None = (t : ℕ) → t < n → slice_get keys t ≡ Some (Some key) → ⊥
IsLast keys key n (Some c) =
    (c < n) × (slice_get keys c ≡ Some (Some key))
    × ((t : ℕ) → c < t → t < n → slice_get keys t ≡ Some (Some key) → ⊥)

-- The head of each key's chain is the last place with this key, and the next place on the chain is
-- the last one before it. The lists can grow up to the greatest number of places, but not further.
pub record IsChained
    (places : Places) (heads nexts : List (Option ℕ)) (next_capacity : ℕ) : Type 0 where
  pub same : length nexts ≡ length places.keys
  pub fixed : length heads ≡ CHAINS
  pub few : places.capacity ≤ MOST_SCOPES
  pub within : length places.keys ≤ places.capacity
  pub nexts_fit : next_capacity ≡ places.capacity
  pub head : (key : ℕ)
      → IsLast places.keys key (length places.keys) (slice_index_or heads key None)
  pub next : (t key : ℕ) → slice_get places.keys t ≡ Some (Some key)
      → IsLast places.keys key t (slice_index_or nexts t None)

-- The head of a key's chain.
abbrev pub head_of : List (Option ℕ) → Option ℕ → Option ℕ
head_of heads None = None
head_of heads (Some key) = slice_index_or heads key None

-- The heads after place n was added to its key's chain.
abbrev pub hung : List (Option ℕ) → Option ℕ → ℕ → List (Option ℕ)
hung heads None n = heads
hung heads (Some key) n = slice_set heads key (Some n)
