-- Lists that are changed at one place, or from the beginning on.
use Rattle.run_model.proofs.Common.{◌≡◌, ◌<◌, ℕ, zero, suc, List, [], ◌∷◌, ◌++◌, length, take}
use Rattle.run_model.proofs.Common.{get_or, ap, ◌∙◌, arith, take-append_seam, at_row}
use Rattle.std.proofs.Math.ListN.{set}

-- A row that is read, changed and written back is changed at its place.
pub set_is_at_row : {X : Type 0} (change : X → X) (n : ℕ) (rows : List X) (row : X)
    → n < length rows → row ≡ get_or rows n row → set rows n (change row) ≡ at_row change n rows
set_is_at_row change n [] row inside is = absurd (omega arith)
set_is_at_row change zero (r ∷ rows) row inside is = ap (λ x. change x ∷ rows) is
set_is_at_row change (suc n) (r ∷ rows) row inside is =
    ap (λ rest. r ∷ rest) (set_is_at_row change n rows row (omega arith) is)

-- A list that is lent and changed in place is the changed one.
pub given_back : {X : Type 0} (len : ℕ) (changed rest : List X) → len ≡ length changed
    → take len (changed ++ rest) ≡ changed
given_back len changed rest same =
    ap (λ n. take n (changed ++ rest)) same ∙ take-append_seam changed rest
