-- Marks that spread down the links from one scope.
use Rattle.std.specs.Prelude.{◌≡◌, ◌⊎◌, ◌<◌, ℕ, true, is_some, is_none, List, [], ◌∷◌, length}
use Rattle.std.specs.Prelude.{Option, Some, None, slice_get}
use Rattle.std.specs.List.{count_by}
use Rattle.scope_tree.specs.Marks.{mark_of}

-- The number is one of these.
abbrev pub In : ℕ → List ℕ → Type 0
In n [] = ⊥
In n (x ∷ xs) = (n ≡ x) ⊎ In n xs

-- The link of t is p: whatever ends p also ends t.
abbrev pub Child : List (Option ℕ) → ℕ → ℕ → Type 0
Child links t p = slice_get links t ≡ Some (Some p)

-- Scope s had no mark before, and is now marked with scope `at`.
pub record Since (old new : List (Option ℕ)) (at s : ℕ) : Type 0 where
  pub was : mark_of old s ≡ None
  pub is : mark_of new s ≡ Some at

-- The marks so far: old marks stay, and each new mark is `at`, either of scope `at` itself, or of a
-- scope below one that has a new mark.
pub record HaveSpread (links old new : List (Option ℕ)) (at : ℕ) : Type 0 where
  pub same : length new ≡ length old
  pub here : is_some (mark_of new at) ≡ true
  pub kept : (t n : ℕ) → mark_of old t ≡ Some n → mark_of new t ≡ Some n
  pub fresh : (t : ℕ) → mark_of old t ≡ None
      → (mark_of new t ≡ None) ⊎ (mark_of new t ≡ Some at)
  pub below : (t : ℕ) → Since old new at t
      → (t ≡ at) ⊎ ((p : ℕ) × Child links t p × Since old new at p)

-- The marks while they spread: only the children of the listed scopes, and those of s below k, are
-- still to be marked.
pub record Spreading (links old new : List (Option ℕ)) (at : ℕ) (work : List ℕ)
    (s k : ℕ) : Type 0 where
  pub so_far : HaveSpread links old new at
  pub listed : (p : ℕ) → In p work → (p < length old) × Since old new at p
  pub down : (t p : ℕ) → Child links t p → Since old new at p
      → (is_some (mark_of new t) ≡ true) ⊎ In p work ⊎ ((p ≡ s) × (t < k))

-- The number of scopes that have no mark.
abbrev pub unmarked : List (Option ℕ) → ℕ
unmarked marks = count_by is_none marks

-- The marks when the list is empty.
abbrev pub IsSpread : List (Option ℕ) → List (Option ℕ) → List (Option ℕ) → ℕ → Type 0
IsSpread links old new at = Spreading links old new at [] 0 0
