-- The first row that passes a test, and its place.
use Rattle.run_model.proofs.Common.{◌++◌, ◌≡◌, ◌<◌, ℕ, Bool, true, false, List, [], ◌∷◌, length}
use Rattle.run_model.proofs.Common.{get_or, Some, None, slice_get, position, cond, ap, ◌∙◌, arith}
use Rattle.run_model.proofs.Common.{lt-ltb, ltb, none-some, slice_get_within, slice_get-get_or}
use Rattle.run_model.proofs.Common.{get_or_from_slice_get, false_from_ne_true, option_map}
use Rattle.run_model.proofs.Common.{option_map_or, at_row, slice_get-push_last}
use Rattle.run_model.proofs.Common.{slice_get-at_row_same, cond-true}
use Rattle.std.proofs.lemmas.List.Quantifiers.{position-Some}
use Rattle.std.proofs.lemmas.List.Sums.{position_or_len_is}
use Rattle.std.specs.List.{position_or_len}
use Rattle.model_laws.proofs.Tests.{passing}

-- ---- a row that passes a test

-- If a row passes a test under a number, there are more rows than this number.
pub passing_within : {X : Type 0} (test : X → Bool) (rows : List X) (n : ℕ)
    → option_map_or test (slice_get rows n) false ≡ true → n < length rows
passing_within test rows n e =
    let row = passing test (slice_get rows n) e in
    slice_get_within rows n row.0 row.1

-- ---- places

-- The row at the place that is found passes the test.
pub row_at_place : {X : Type 0} (test : X → Bool) (rows : List X) (n : ℕ)
    → position test rows ≡ Some n
    → (row : X) × (slice_get rows n ≡ Some row) × (test row ≡ true)
row_at_place test [] n at = absurd (none-some n at)
row_at_place test (r ∷ rows) n at =
    let known = position-Some test (r ∷ rows) n r at in
    (get_or (r ∷ rows) n r, slice_get-get_or (r ∷ rows) n r known.0, known.1)

-- If only one row passes the test, it is found at its place.
pub place_of_row : {X : Type 0} (test : X → Bool) (rows : List X) (n : ℕ) (row : X)
    → slice_get rows n ≡ Some row → test row ≡ true
    → ((m : ℕ) (other : X) → slice_get rows m ≡ Some other → test other ≡ true → m ≡ n)
    → position test rows ≡ Some n
place_of_row test rows n row found passes alone =
    ap (λ i. cond (ltb i (length rows)) (Some i) None) first
    ∙ cond-true (ltb n (length rows)) (Some n) None (lt-ltb n (length rows) within)
  where
    within : n < length rows
    within = slice_get_within rows n row found

    before : (k : ℕ) → k < n → test (get_or rows k row) ≡ false
    before k less =
        false_from_ne_true (test (get_or rows k row))
        (λ e.
        omega (
          arith,
          less,
          alone k (get_or rows k row)
              (slice_get-get_or rows k row (omega (arith, less, within))) e,
        ))

    here : n < length rows → test (get_or rows n row) ≡ true
    here _ = ap test (get_or_from_slice_get rows n row row found) ∙ passes

    first : position_or_len test rows ≡ n
    first = position_or_len_is test rows n row (omega (arith, within)) before here

-- The row that was pushed.
pub pushed_row : {X : Type 0} (rows new : List X) (row : X) → new ≡ rows ++ row ∷ []
    → slice_get new (length rows) ≡ Some row
pushed_row {X = X} rows new row pushed =
    ap (λ (all : List X). slice_get all (length rows)) pushed ∙ slice_get-push_last rows row

-- The row that was changed.
pub changed_row : {X : Type 0} (change : X → X) (n : ℕ) (rows new : List X) (row : X)
    → new ≡ at_row change n rows → slice_get rows n ≡ Some row
    → slice_get new n ≡ Some (change row)
changed_row {X = X} change n rows new row changed found =
    ap (λ (all : List X). slice_get all n) changed
    ∙ slice_get-at_row_same change n rows
    ∙ ap (option_map change) found
