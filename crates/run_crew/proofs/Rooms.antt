-- Some of n elements have been added, the others are left, and n elements fit.
use Rattle.std.specs.Prelude.{◌≡◌, ◌<◌, ◌≤◌, ◌+◌, ℕ, List, length, All}
use Rattle.std.proofs.Common.{arith}

abbrev pub Room : ℕ → ℕ → ℕ → ℕ → Type 0
Room n room had left = (had + left ≤ n) × (n ≤ room)

-- No element has been added yet.
pub all_left : (n room had left all : ℕ) → n ≤ room → had ≡ 0 → left ≡ all → all ≤ n
    → Room n room had left
all_left n room had left all fits none same few = (omega arith, fits)

pub one_more : (n room had left room' has left' : ℕ) → room' ≡ room → has ≡ had + 1
    → left' + 1 ≡ left → Room n room had left → Room n room' has left'
one_more n room had left room' has left' same more less h = (omega arith, omega arith)

pub one_refused : (n room had left room' has left' : ℕ) → room' ≡ room → has ≡ had
    → left' + 1 ≡ left → Room n room had left → Room n room' has left'
one_refused n room had left room' has left' same more less h = (omega arith, omega arith)

pub has_room : (n room had left left' : ℕ) → left' + 1 ≡ left → Room n room had left → had < room
has_room n room had left left' less h = omega arith

pub at_most : (n room had left : ℕ) → Room n room had left → had ≤ n
at_most n room had left h = omega arith

pub all_there : (n len had left : ℕ) → len ≡ had → n ≤ len → had + left ≤ n → had ≡ n
all_there n len had left is enough few = omega arith

pub none_left : {X : Type 0} (P : X → Type 0) (xs : List X) (n : ℕ) → n ≡ 0 → n ≡ length xs
    → All P xs
none_left P xs n none counts = λ k d below. absurd (omega (arith, none, counts, below))
