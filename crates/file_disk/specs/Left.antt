-- What a crash at one of several moments may have left of a file.
use Rattle.std.specs.Prelude.{◌⊎◌, ◌≤◌, ℕ, List, [], ◌∷◌, drop, length}
use Rattle.std.proofs.Common.{arith, zero, suc, inr}
use Rattle.file_calls.specs.OpenFiles.{FileState, MayLeave}

-- A crash in one of these states may have left these bytes.
abbrev pub HasLeft : List FileState → List ℕ → Type 0
HasLeft [] x = ⊥
HasLeft (s ∷ states) x = MayLeave s x ⊎ HasLeft states x

-- Whatever a crash in one of the later states may have left, a crash in one of all states may have.
pub left_of_all : (n : ℕ) (states : List FileState) (x : List ℕ)
    → HasLeft (drop n states) x → HasLeft states x
left_of_all zero states x left = left
left_of_all (suc n) [] x left = left
left_of_all (suc n) (s ∷ states) x left = inr (left_of_all n states x left)

-- The same of the states from an earlier one on.
pub left_of_more : (n m : ℕ) (states : List FileState) (x : List ℕ) → n ≤ m
    → HasLeft (drop m states) x → HasLeft (drop n states) x
left_of_more zero m states x before left = left_of_all m states x left
left_of_more (suc n) zero states x before left = absurd (omega (arith, before))
left_of_more (suc n) (suc m) [] x before left = left
left_of_more (suc n) (suc m) (s ∷ states) x before left =
    left_of_more n m states x (omega (arith, before)) left

-- No state is left behind the last one.
pub none_left : (n : ℕ) (states : List FileState) (x : List ℕ) → length states ≤ n
    → HasLeft (drop n states) x → ⊥
none_left zero [] x all left = left
none_left zero (s ∷ states) x all left = absurd (omega (arith, all))
none_left (suc n) [] x all left = left
none_left (suc n) (s ∷ states) x all left = none_left n states x (omega (arith, all)) left
