-- Kept rows by their new numbers: the origin and the place of each.
use Rattle.run_model.proofs.Common.{◌≡◌, ◌⊎◌, ◌<◌, ◌≤◌, ◌==◌, ℕ, zero, suc, Bool, true, false}
use Rattle.run_model.proofs.Common.{List, [], ◌∷◌, length, map, Some, slice_get, inl, inr, refl}
use Rattle.run_model.proofs.Common.{sym, ap, subst, ◌∙◌, arith, option_map, nat_lt, cases_eq}
use Rattle.run_model.proofs.Common.{cases_lt, eq-eqb, le-ltb, lt-ltb, ne_eqb, length-map}
use Rattle.run_model.proofs.Common.{none-some, slice_get-map, map_cases}
use Rattle.std.proofs.lemmas.Bool.{cases_order}
use Rattle.state_renewal.specs.Renewed.{one_more_if, new_number, cons_if, kept}

-- ---- new numbers

more_at_most : (b : Bool) (n : ℕ) → n ≤ one_more_if b n
more_at_most true n = omega arith
more_at_most false n = omega arith

more_at_least : (b : Bool) (n m : ℕ) → m ≤ n → one_more_if b m ≤ suc n
more_at_least true n m less = omega arith
more_at_least false n m less = omega arith

pub number_at_most : (keeps : ℕ → Bool) (n : ℕ) → new_number keeps n ≤ n
number_at_most keeps zero = omega arith
number_at_most keeps (suc n) =
    more_at_least (keeps n) n (new_number keeps n) (number_at_most keeps n)

-- A later row has no lower new number.
pub number_up : (keeps : ℕ → Bool) (n m : ℕ) → n ≤ m → new_number keeps n ≤ new_number keeps m
number_up keeps n zero less =
    let none : n ≡ zero = omega (arith, less) in
    subst (λ k. new_number keeps k ≤ zero) (sym none) (omega arith)
number_up keeps n (suc m) less =
    by_order (cases_order n (suc m)) (λ below. number_up keeps n m below)
  where
    by_order : (n ≡ suc m) ⊎ ((n < suc m) ⊎ (suc m < n))
        → (n ≤ m → new_number keeps n ≤ new_number keeps m)
        → new_number keeps n ≤ one_more_if (keeps m) (new_number keeps m)
    by_order (inl e) up = subst (λ k. new_number keeps n ≤ new_number keeps k) e (omega arith)
    by_order (inr (inl below)) up =
        let lesser = up (omega (arith, below)) in
        let more = more_at_most (keeps m) (new_number keeps m) in
        omega (arith, lesser, more)
    by_order (inr (inr above)) up = absurd (omega (arith, less, above))

-- A kept row has a lower new number than each row after it.
pub number_less : (keeps : ℕ → Bool) (n m : ℕ) → keeps n ≡ true → n < m
    → new_number keeps n < new_number keeps m
number_less keeps n zero is less = absurd (omega (arith, less))
number_less keeps n (suc m) is less =
    by_order (cases_order n m) (λ below. number_less keeps n m is below)
  where
    by_order : (n ≡ m) ⊎ ((n < m) ⊎ (m < n))
        → (n < m → new_number keeps n < new_number keeps m)
        → new_number keeps n < one_more_if (keeps m) (new_number keeps m)
    by_order (inl e) lesser =
        subst (λ k. new_number keeps n < one_more_if (keeps k) (new_number keeps k)) e
        (subst (λ b. new_number keeps n < one_more_if b (new_number keeps n)) (sym is)
        (omega arith))
    by_order (inr (inl below)) lesser =
        let rest = lesser below in
        let more = more_at_most (keeps m) (new_number keeps m) in
        omega (arith, rest, more)
    by_order (inr (inr above)) lesser = absurd (omega (arith, less, above))

-- Two kept rows have different new numbers.
pub number_same : (keeps : ℕ → Bool) (n m : ℕ) → keeps n ≡ true → keeps m ≡ true
    → new_number keeps n ≡ new_number keeps m → n ≡ m
number_same keeps n m is_n is_m same = by_order (cases_order n m)
  where
    by_order : (n ≡ m) ⊎ ((n < m) ⊎ (m < n)) → n ≡ m
    by_order (inl e) = e
    by_order (inr (inl less)) =
        let apart = number_less keeps n m is_n less in absurd (omega (arith, apart, same))
    by_order (inr (inr less)) =
        let apart = number_less keeps m n is_m less in absurd (omega (arith, apart, same))

pub same_number : (keeps : ℕ → Bool) (a b : ℕ) → keeps a ≡ true → keeps b ≡ true
    → (new_number keeps a == new_number keeps b) ≡ (a == b)
same_number keeps a b is_a is_b = by_cases (cases_eq a b)
  where
    by_cases : (a ≡ b) ⊎ (a ≡ b → ⊥) → (new_number keeps a == new_number keeps b) ≡ (a == b)
    by_cases (inl e) =
        eq-eqb (new_number keeps a) (new_number keeps b) (ap (new_number keeps) e)
        ∙ sym (eq-eqb a b e)
    by_cases (inr other) =
        ne_eqb (new_number keeps a) (new_number keeps b)
        (λ e. other (number_same keeps a b is_a is_b e))
        ∙ sym (ne_eqb a b other)

-- A row stays before another, or after it.
pub less_same : (goes : ℕ → Bool) (n many : ℕ) → goes n ≡ true
    → nat_lt (new_number goes n) (new_number goes many) ≡ nat_lt n many
less_same goes n many is = by_order (cases_lt n many)
  where
    by_order : (n < many) ⊎ (many ≤ n)
        → nat_lt (new_number goes n) (new_number goes many) ≡ nat_lt n many
    by_order (inl less) =
        lt-ltb (new_number goes n) (new_number goes many) (number_less goes n many is less)
        ∙ sym (lt-ltb n many less)
    by_order (inr more) =
        le-ltb (new_number goes n) (new_number goes many) (number_up goes many n more)
        ∙ sym (le-ltb n many more)

-- ---- the rows that are kept

more_swapped : (a b : Bool) (n : ℕ)
    → one_more_if a (one_more_if b n) ≡ one_more_if b (one_more_if a n)
more_swapped true true n = refl
more_swapped true false n = refl
more_swapped false true n = refl
more_swapped false false n = refl

-- A row after the first has the number that it has without the first, or one more.
pub number_after : (keeps : ℕ → Bool) (n : ℕ)
    → new_number keeps (suc n) ≡ one_more_if (keeps zero) (new_number (λ k. keeps (suc k)) n)
number_after keeps zero = refl
number_after keeps (suc n) =
    ap (one_more_if (keeps (suc n))) (number_after keeps n)
    ∙ more_swapped (keeps (suc n)) (keeps zero) (new_number (λ k. keeps (suc k)) n)

cons_get : {X : Type 0} (b : Bool) (r : X) (rows : List X) (n : ℕ)
    → slice_get (cons_if b r rows) (one_more_if b n) ≡ slice_get rows n
cons_get true r rows n = refl
cons_get false r rows n = refl

pub kept_get : {X : Type 0} (goes : ℕ → Bool) (rows : List X) (n : ℕ) → goes n ≡ true
    → slice_get (kept goes rows) (new_number goes n) ≡ slice_get rows n
kept_get goes [] n is = refl
kept_get goes (r ∷ rows) zero is =
    ap (λ b. slice_get (cons_if b r (kept (λ n. goes (suc n)) rows)) zero) is
kept_get goes (r ∷ rows) (suc n) is =
    ap (slice_get (kept goes (r ∷ rows))) (number_after goes n)
    ∙ cons_get (goes zero) r (kept (λ n. goes (suc n)) rows)
    (new_number (λ n. goes (suc n)) n)
    ∙ kept_get (λ n. goes (suc n)) rows n is

-- The origin of the row with this new number.
record ComesFrom
    {X : Type 0} (keeps : ℕ → Bool) (rows : List X) (m : ℕ) (row : X) : Type 0 where
  number : ℕ
  found : slice_get rows number ≡ Some row
  is_kept : keeps number ≡ true
  restated : m ≡ new_number keeps number

comes_after : {X : Type 0} (keeps : ℕ → Bool) (r : X) (rows : List X) (m : ℕ) (row : X)
    → ComesFrom (λ k. keeps (suc k)) rows m row
    → ComesFrom keeps (r ∷ rows) (one_more_if (keeps zero) m) row
comes_after keeps r rows m row from = record {
  number = suc from.number;
  found = from.found;
  is_kept = from.is_kept;
  restated = ap (one_more_if (keeps zero)) from.restated ∙ sym (number_after keeps from.number);
}

kept_back : {X : Type 0} (keeps : ℕ → Bool) (rows : List X) (m : ℕ) (row : X)
    → slice_get (kept keeps rows) m ≡ Some row → ComesFrom keeps rows m row
kept_back keeps [] m row found = absurd (none-some row found)
kept_back keeps (r ∷ rows) m row found =
    by_first (keeps zero) refl m found (λ k at. kept_back (λ n. keeps (suc n)) rows k row at)
  where
    by_first : (b : Bool) → keeps zero ≡ b → (m : ℕ)
        → slice_get (cons_if b r (kept (λ k. keeps (suc k)) rows)) m ≡ Some row
        → ((k : ℕ) → slice_get (kept (λ n. keeps (suc n)) rows) k ≡ Some row
        → ComesFrom (λ n. keeps (suc n)) rows k row)
        → ComesFrom keeps (r ∷ rows) m row
    by_first true is zero at behind =
        record { number = zero; found = at; is_kept = is; restated = refl }
    by_first true is (suc k) at behind =
        subst (λ b. ComesFrom keeps (r ∷ rows) (one_more_if b k) row) is
        (comes_after keeps r rows k row (behind k at))
    by_first false is k at behind =
        subst (λ b. ComesFrom keeps (r ∷ rows) (one_more_if b k) row) is
        (comes_after keeps r rows k row (behind k at))

length_cons_if : {X : Type 0} (b : Bool) (row : X) (rows : List X)
    → length (cons_if b row rows) ≡ one_more_if b (length rows)
length_cons_if true row rows = refl
length_cons_if false row rows = refl

-- The number of kept rows is the new number that a row after all of them would have.
pub length-kept : {X : Type 0} (keeps : ℕ → Bool) (rows : List X)
    → length (kept keeps rows) ≡ new_number keeps (length rows)
length-kept keeps [] = refl
length-kept keeps (r ∷ rows) =
    length_cons_if (keeps zero) r (kept (λ k. keeps (suc k)) rows)
    ∙ ap (one_more_if (keeps zero)) (length-kept (λ k. keeps (suc k)) rows)
    ∙ sym (number_after keeps (length rows))

-- ---- rows by the new numbers

-- A kept row of the old ones, and the new row that it becomes.
pub record IsOf
    {X : Type 0} (keeps : ℕ → Bool) (renumber : X → X) (rows : List X) (m : ℕ) (row : X) : Type 0
  where
    pub n : ℕ
    pub old : X
    pub found : slice_get rows n ≡ Some old
    pub is_kept : keeps n ≡ true
    pub number : m ≡ new_number keeps n
    pub restated : row ≡ renumber old

-- The new rows are the kept ones by their new numbers, in the old order.
pub record AreRenewed
    {X : Type 0} (keeps : ℕ → Bool) (renumber : X → X) (old new : List X) : Type 0 where
  pub few : length new ≤ length old
  pub forth : (n : ℕ) (row : X) → slice_get old n ≡ Some row → keeps n ≡ true
      → slice_get new (new_number keeps n) ≡ Some (renumber row)
  pub back : (m : ℕ) (row : X) → slice_get new m ≡ Some row → IsOf keeps renumber old m row

pub are_restated : {X : Type 0} (keeps : ℕ → Bool) (renumber : X → X) (rows : List X)
    → AreRenewed keeps renumber rows (map renumber (kept keeps rows))
are_restated keeps renumber rows = record {
  few =
      let same = length-map (kept keeps rows) renumber in
      let many = length-kept keeps rows in
      let less = number_at_most keeps (length rows) in
      omega (arith, same, many, less);
  forth =
      λ n row found is.
      slice_get-map renumber (kept keeps rows) (new_number keeps n)
      ∙ ap (option_map renumber) (kept_get keeps rows n is ∙ found);
  back =
      λ m row found.
      let old = map_cases renumber m (kept keeps rows) row found in
      let from = kept_back keeps rows m old.0 old.1 in
      record {
        n = from.number;
        old = old.0;
        found = from.found;
        is_kept = from.is_kept;
        number = from.restated;
        restated = old.2;
      };
}
