-- Rows, some of which go on, by their new numbers: a change of the rows is a change of those.
use Rattle.run_model.proofs.Common.{◌≡◌, ◌<◌, ℕ, zero, suc, Bool, true, false, List, [], ◌∷◌, ◌++◌}
use Rattle.run_model.proofs.Common.{length, map, Some, slice_get, refl, sym, ap, ◌∙◌, arith}
use Rattle.run_model.proofs.Common.{Option, None, option_map, option_map_or, length-map}
use Rattle.run_model.proofs.Common.{slice_get-map, at_row}
use Rattle.state_renewal.specs.Renewed.{cons_if, kept, new_number, one_more_if, rows_renumbered}
use Rattle.state_renewal.proofs.Numbers.{length-kept, number_after, kept_get}
use Rattle.std.proofs.lemmas.List.{map_push}

-- ---- a row at the end

cons_push : {X : Type 0} (b : Bool) (r : X) (rows : List X) (row : X)
    → cons_if b r (rows ++ row ∷ []) ≡ cons_if b r rows ++ row ∷ []
cons_push true r rows row = refl
cons_push false r rows row = refl

kept_push : {X : Type 0} (goes : ℕ → Bool) (rows : List X) (row : X)
    → goes (length rows) ≡ true → kept goes (rows ++ row ∷ []) ≡ kept goes rows ++ row ∷ []
kept_push goes [] row is = ap (λ b. cons_if b row []) is
kept_push goes (r ∷ rows) row is =
    ap (cons_if (goes zero) r) (kept_push (λ n. goes (suc n)) rows row is)
    ∙ cons_push (goes zero) r (kept (λ n. goes (suc n)) rows) row

pub renumbered_push : {X : Type 0} (goes : ℕ → Bool) (renumber : X → X) (rows : List X) (row : X)
    → goes (length rows) ≡ true
    → rows_renumbered goes renumber rows ++ renumber row ∷ [] ≡ rows_renumbered goes renumber
    (rows ++ row ∷ [])
renumbered_push goes renumber rows row is =
    sym (ap (map renumber) (kept_push goes rows row is) ∙ map_push renumber (kept goes rows) row)

-- ---- a row that is changed

cons_at : {X : Type 0} (change : X → X) (b : Bool) (r : X) (n : ℕ) (rows : List X)
    → cons_if b r (at_row change n rows)
    ≡ at_row change (one_more_if b n) (cons_if b r rows)
cons_at change true r n rows = refl
cons_at change false r n rows = refl

kept_at : {X : Type 0} (goes : ℕ → Bool) (change : X → X) (n : ℕ) (rows : List X)
    → goes n ≡ true
    → kept goes (at_row change n rows) ≡ at_row change (new_number goes n) (kept goes rows)
kept_at goes change n [] is = refl
kept_at goes change zero (r ∷ rows) is =
    ap (λ b. cons_if b (change r) (kept (λ n. goes (suc n)) rows)) is
    ∙ ap (λ b. at_row change zero (cons_if b r (kept (λ n. goes (suc n)) rows))) (sym is)
kept_at goes change (suc n) (r ∷ rows) is =
    ap (cons_if (goes zero) r) (kept_at (λ n. goes (suc n)) change n rows is)
    ∙ cons_at change (goes zero) r (new_number (λ n. goes (suc n)) n)
    (kept (λ n. goes (suc n)) rows)
    ∙ ap (λ k. at_row change k (kept goes (r ∷ rows))) (sym (number_after goes n))

map_at : {X : Type 0} (renumber change : X → X) (n : ℕ) (rows : List X)
    → ((x : X) → renumber (change x) ≡ change (renumber x))
    → map renumber (at_row change n rows) ≡ at_row change n (map renumber rows)
map_at renumber change n [] same = refl
map_at renumber change zero (r ∷ rows) same = ap (λ x. x ∷ map renumber rows) (same r)
map_at renumber change (suc n) (r ∷ rows) same =
    ap (λ rs. renumber r ∷ rs) (map_at renumber change n rows same)

pub renumbered_at : {X : Type 0} (goes : ℕ → Bool) (renumber change : X → X) (n : ℕ) (rows : List X)
    → goes n ≡ true → ((x : X) → renumber (change x) ≡ change (renumber x))
    → at_row change (new_number goes n) (rows_renumbered goes renumber rows)
    ≡ rows_renumbered goes renumber (at_row change n rows)
renumbered_at goes renumber change n rows is same =
    sym (ap (map renumber) (kept_at goes change n rows is)
    ∙ map_at renumber change (new_number goes n) (kept goes rows) same)

-- ---- rows that are all changed alike

cons_map : {X : Type 0} (f : X → X) (b : Bool) (r : X) (rows : List X)
    → cons_if b (f r) (map f rows) ≡ map f (cons_if b r rows)
cons_map f true r rows = refl
cons_map f false r rows = refl

pub kept_map : {X : Type 0} (goes : ℕ → Bool) (f : X → X) (rows : List X)
    → kept goes (map f rows) ≡ map f (kept goes rows)
kept_map goes f [] = refl
kept_map goes f (r ∷ rows) =
    ap (cons_if (goes zero) (f r)) (kept_map (λ n. goes (suc n)) f rows)
    ∙ cons_map f (goes zero) r (kept (λ n. goes (suc n)) rows)

map_swapped : {X : Type 0} (f g : X → X) (rows : List X) → ((x : X) → f (g x) ≡ g (f x))
    → map f (map g rows) ≡ map g (map f rows)
map_swapped f g [] same = refl
map_swapped f g (r ∷ rows) same =
    ap (λ x. x ∷ map f (map g rows)) (same r)
    ∙ ap (λ rs. g (f r) ∷ rs) (map_swapped f g rows same)

pub renumbered_map : {X : Type 0} (goes : ℕ → Bool) (renumber change : X → X) (rows : List X)
    → ((x : X) → renumber (change x) ≡ change (renumber x))
    → map change (rows_renumbered goes renumber rows) ≡ rows_renumbered goes renumber
    (map change rows)
renumbered_map goes renumber change rows same =
    sym (ap (map renumber) (kept_map goes change rows)
    ∙ map_swapped renumber change (kept goes rows) same)

-- ---- rows by number

-- The row with the new number is the old one by the new numbers. If there was none, there is none.
pub renumbered_get : {X : Type 0} (goes : ℕ → Bool) (renumber : X → X) (rows : List X) (n : ℕ)
    → goes n ≡ true
    → slice_get (rows_renumbered goes renumber rows) (new_number goes n)
    ≡ option_map renumber (slice_get rows n)
renumbered_get goes renumber rows n is =
    slice_get-map renumber (kept goes rows) (new_number goes n)
    ∙ ap (option_map renumber) (kept_get goes rows n is)

-- The answer about the row with the new number, if each row has the same answer.
pub row_renumbered : {X Y : Type 0} (new old : Option X → Y) (goes : ℕ → Bool) (renumber : X → X)
    (rows : List X) (n : ℕ) → new None ≡ old None
    → ((row : X) → slice_get rows n ≡ Some row → new (Some (renumber row)) ≡ old (Some row))
    → goes n ≡ true
    → new (slice_get (rows_renumbered goes renumber rows) (new_number goes n)) ≡ old
    (slice_get rows n)
row_renumbered {X = X} new old goes renumber rows n none some is =
    ap new (renumbered_get goes renumber rows n is) ∙ by_row (slice_get rows n) refl
  where
    by_row : (o : Option X) → slice_get rows n ≡ o → new (option_map renumber o) ≡ old o
    by_row None at = none
    by_row (Some row) at = some row at

-- A test of the row with the new number.
pub test_renumbered : {X : Type 0} (test : X → Bool) (goes : ℕ → Bool) (renumber : X → X)
    (rows : List X)
    (n : ℕ) → ((row : X) → test (renumber row) ≡ test row) → goes n ≡ true
    → option_map_or test (slice_get (rows_renumbered goes renumber rows) (new_number goes n)) false
    ≡ option_map_or test (slice_get rows n) false
test_renumbered test goes renumber rows n same is =
    row_renumbered (λ o. option_map_or test o false)
    (λ o. option_map_or test o false) goes renumber rows n
    refl (λ row at. same row) is

pub length-renumbered : {X : Type 0} (goes : ℕ → Bool) (renumber : X → X) (rows : List X)
    → length (rows_renumbered goes renumber rows) ≡ new_number goes (length rows)
length-renumbered goes renumber rows = length-map (kept goes rows) renumber ∙ length-kept goes rows

-- ---- rows that agree

-- Two tests that agree on the rows keep the same rows.
pub kept_same : {X : Type 0} (f g : ℕ → Bool) (rows : List X)
    → ((n : ℕ) → n < length rows → f n ≡ g n) → kept f rows ≡ kept g rows
kept_same f g [] same = refl
kept_same f g (r ∷ rows) same =
    ap (λ b. cons_if b r (kept (λ n. f (suc n)) rows)) (same zero (omega arith))
    ∙ ap (cons_if (g zero) r)
    (kept_same (λ n. f (suc n)) (λ n. g (suc n)) rows
    (λ n less. same (suc n) (omega (arith, less))))

-- Two tests that agree below a number give it the same new number.
pub number_agrees : (f g : ℕ → Bool) (n : ℕ) → ((k : ℕ) → k < n → f k ≡ g k)
    → new_number f n ≡ new_number g n
number_agrees f g zero same = refl
number_agrees f g (suc n) same =
    ap (λ b. one_more_if b (new_number f n)) (same n (omega arith))
    ∙ ap (one_more_if (g n))
    (number_agrees f g n (λ k less. same k (omega (arith, less))))

-- Rows that change in the same way are the same.
pub restated_same : {X : Type 0} (goes : ℕ → Bool) (f g : X → X) (rows : List X)
    → ((n : ℕ) (row : X) → slice_get rows n ≡ Some row → f row ≡ g row)
    → map f (kept goes rows) ≡ map g (kept goes rows)
restated_same goes f g [] same = refl
restated_same goes f g (r ∷ rows) same =
    by_first (goes zero)
    (restated_same (λ n. goes (suc n)) f g rows (λ n row found. same (suc n) row found))
  where
    by_first : (b : Bool)
        → map f (kept (λ n. goes (suc n)) rows) ≡ map g (kept (λ n. goes (suc n)) rows)
        → map f (cons_if b r (kept (λ n. goes (suc n)) rows))
        ≡ map g (cons_if b r (kept (λ n. goes (suc n)) rows))
    by_first true rest =
        ap (λ x. x ∷ map f (kept (λ n. goes (suc n)) rows)) (same zero r refl)
        ∙ ap (λ rs. g r ∷ rs) rest
    by_first false rest = rest
