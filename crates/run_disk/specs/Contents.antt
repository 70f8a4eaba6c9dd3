-- The contents of a disk, by their places, and sets of contents.
use Rattle.std.specs.Prelude.{◌≡◌, ◌<◌, ◌≤◌, ◌+◌, ℕ, List, length, get_or}

-- The new contents are the old ones, except for n places from `at` on.
pub record SameOutside (at n : ℕ) (old new : List ℕ) : Type 0 where
  pub size : length new ≡ length old
  pub before : (i : ℕ) → i < at → get_or new i 0 ≡ get_or old i 0
  pub behind : (i : ℕ) → at + n ≤ i → get_or new i 0 ≡ get_or old i 0

-- The contents have these bytes, beginning at `at`.
abbrev pub Holds : ℕ → List ℕ → List ℕ → Type 0
Holds at bytes contents =
    (i : ℕ) → i < length bytes → get_or contents (at + i) 0 ≡ get_or bytes i 0

-- The new contents are the old ones, with these bytes put in from `at` on.
pub record Puts (at : ℕ) (bytes old new : List ℕ) : Type 0 where
  pub outside : SameOutside at (length bytes) old new
  pub inside : Holds at bytes new

-- Each of the new contents comes from one of the old ones by this step.
abbrev pub Follows :
    (List ℕ → List ℕ → Type 0) → (List ℕ → Type 0) → (List ℕ → Type 0) → Type 0
Follows step old new = (x : List ℕ) → new x → (y : List ℕ) × old y × step y x
