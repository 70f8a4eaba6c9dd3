-- Rows that are changed at one place, added at the end, or changed all in the same way.
use Rattle.std.proofs.Common.{◌≡◌, ◌≢◌, ◌⊎◌, ◌<◌, ℕ, zero, suc, List, [], ◌∷◌, ◌++◌, length, map}
use Rattle.std.proofs.Common.{Some, slice_get, inl, inr, refl, sym, ap, arith}
use Rattle.std.proofs.lemmas.Option.{none-some, same_Some}
use Rattle.std.specs.Option.{option_map}
use Rattle.run_model.specs.Rows.{at_row}

-- Each number below the length has a row.
pub row_there : {X : Type 0} (rows : List X) (n : ℕ) → n < length rows
    → (row : X) × (slice_get rows n ≡ Some row)
row_there [] n less = absurd (omega (arith, less))
row_there (r ∷ rows) zero less = (r, refl)
row_there (r ∷ rows) (suc n) less = row_there rows n (omega (arith, less))

-- ---- at one place

-- The changed row, if there is one.
pub slice_get-at_row_same : {X : Type 0} (change : X → X) (n : ℕ) (rows : List X)
    → slice_get (at_row change n rows) n ≡ option_map change (slice_get rows n)
slice_get-at_row_same change n [] = refl
slice_get-at_row_same change zero (row ∷ rows) = refl
slice_get-at_row_same change (suc n) (row ∷ rows) = slice_get-at_row_same change n rows

pub slice_get-at_row_other : {X : Type 0} (change : X → X) (n m : ℕ) (rows : List X) → m ≢ n
    → slice_get (at_row change n rows) m ≡ slice_get rows m
slice_get-at_row_other change n m [] other = refl
slice_get-at_row_other change zero zero (row ∷ rows) other = absurd (other refl)
slice_get-at_row_other change zero (suc m) (row ∷ rows) other = refl
slice_get-at_row_other change (suc n) zero (row ∷ rows) other = refl
slice_get-at_row_other change (suc n) (suc m) (row ∷ rows) other =
    slice_get-at_row_other change n m rows (λ e. other (ap suc e))

pub length-at_row : {X : Type 0} (change : X → X) (n : ℕ) (rows : List X)
    → length (at_row change n rows) ≡ length rows
length-at_row change n [] = refl
length-at_row change zero (row ∷ rows) = refl
length-at_row change (suc n) (row ∷ rows) = ap suc (length-at_row change n rows)

-- A function of the rows that ignores the change has the same result for the changed rows.
pub map-at_row : {X Y : Type 0} (f : X → Y) (change : X → X) (n : ℕ) (rows : List X)
    → ((row : X) → f (change row) ≡ f row) → map f (at_row change n rows) ≡ map f rows
map-at_row f change n [] same = refl
map-at_row f change zero (row ∷ rows) same = ap (λ y. y ∷ map f rows) (same row)
map-at_row f change (suc n) (row ∷ rows) same =
    ap (λ ys. f row ∷ ys) (map-at_row f change n rows same)

-- The origin of a row in the changed rows.
pub record RowChanged
    {X : Type 0} (change : X → X) (n m : ℕ) (rows : List X) (row : X) : Type 0 where
  pub old : X
  pub found : slice_get rows m ≡ Some old
  pub here : m ≡ n
  pub changed : row ≡ change old

pub at_row_cases : {X : Type 0} (change : X → X) (n m : ℕ) (rows : List X) (row : X)
    → slice_get (at_row change n rows) m ≡ Some row
    → ((m ≢ n) × (slice_get rows m ≡ Some row)) ⊎ RowChanged change n m rows row
at_row_cases change n m [] row found = absurd (none-some row found)
at_row_cases change zero zero (r ∷ rows) row found =
    inr (record {
      old = r;
      found = refl;
      here = refl;
      changed = sym (same_Some (change r) row found);
    })
at_row_cases change zero (suc m) (r ∷ rows) row found = inl (λ e. omega (arith, e), found)
at_row_cases change (suc n) zero (r ∷ rows) row found = inl (λ e. omega (arith, e), found)
at_row_cases change (suc n) (suc m) (r ∷ rows) row found =
    elim (at_row_cases change n m rows row found) [
      | inl other ↦ inl (λ e. other.0 (omega (arith, e)), other.1)
      | inr same ↦ inr (record {
        old = same.old;
        found = same.found;
        here = ap suc same.here;
        changed = same.changed;
      })
    ]

-- ---- at the end

pub slice_get-push_left : {X : Type 0} (rows : List X) (row : X) (m : ℕ) → m < length rows
    → slice_get (rows ++ row ∷ []) m ≡ slice_get rows m
slice_get-push_left [] row m less = absurd (omega (arith, less))
slice_get-push_left (r ∷ rows) row zero less = refl
slice_get-push_left (r ∷ rows) row (suc m) less =
    slice_get-push_left rows row m (omega (arith, less))

pub slice_get-push_last : {X : Type 0} (rows : List X) (row : X)
    → slice_get (rows ++ row ∷ []) (length rows) ≡ Some row
slice_get-push_last [] row = refl
slice_get-push_last (r ∷ rows) row = slice_get-push_last rows row

-- A row of the longer list was there before, or is the new one.
pub push_cases : {X : Type 0} (rows : List X) (new : X) (m : ℕ) (row : X)
    → slice_get (rows ++ new ∷ []) m ≡ Some row
    → (slice_get rows m ≡ Some row) ⊎ ((m ≡ length rows) × (row ≡ new))
push_cases [] new zero row found = inr (refl, sym (same_Some new row found))
push_cases [] new (suc m) row found = absurd (none-some row found)
push_cases (r ∷ rows) new zero row found = inl found
push_cases (r ∷ rows) new (suc m) row found =
    elim (push_cases rows new m row found)
    [ inl old ↦ inl old | inr last ↦ inr (ap suc last.0, last.1) ]

-- ---- all alike

-- The origin of a row in the mapped rows.
pub map_cases : {X Y : Type 0} (f : X → Y) (m : ℕ) (rows : List X) (row : Y)
    → slice_get (map f rows) m ≡ Some row
    → (old : X) × (slice_get rows m ≡ Some old) × (row ≡ f old)
map_cases f m [] row found = absurd (none-some row found)
map_cases f zero (r ∷ rows) row found = (r, refl, sym (same_Some (f r) row found))
map_cases f (suc m) (r ∷ rows) row found = map_cases f m rows row found
