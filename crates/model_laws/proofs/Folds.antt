-- Rows that are changed one after another, each by the same change.
use Rattle.run_model.proofs.Common.{◌≡◌, ◌<◌, ◌≤◌, ◌+◌, ◌==◌, ◌&&◌, ◌||◌, ℕ, zero, suc, Bool, true}
use Rattle.run_model.proofs.Common.{false, List, [], ◌∷◌, length, filter, fold, Option, Some, None}
use Rattle.run_model.proofs.Common.{slice_get, if◌then◌else◌, inl, inr, refl, sym, ap, ◌∙◌, arith}
use Rattle.run_model.proofs.Common.{list_any, range_with_len, option_map, option_map_or, cases_eq}
use Rattle.run_model.proofs.Common.{eq-eqb, ne_eqb, none-some, same_Some, at_row}
use Rattle.run_model.proofs.Common.{slice_get-at_row_same, slice_get-at_row_other, or-false}

-- The row of this number is changed, where there is a number.
abbrev pub at_key : {X : Type 0} → (X → X) → Option ℕ → List X → List X
at_key change None rows = rows
at_key change (Some k) rows = at_row change k rows

abbrev pub is_key : ℕ → Option ℕ → Bool
is_key m key = option_map_or (λ k. k == m) key false

abbrev pub changed_if : {X : Type 0} → (X → X) → Bool → X → X
changed_if change b x = if b then change x else x

-- Rows that are the same at each place are the same rows.
pub same_rows : {X : Type 0} (xs ys : List X) → ((m : ℕ) → slice_get xs m ≡ slice_get ys m)
    → xs ≡ ys
same_rows [] [] same = refl
same_rows [] (y ∷ ys) same = absurd (none-some y (same 0))
same_rows (x ∷ xs) [] same = absurd (none-some x (sym (same 0)))
same_rows (x ∷ xs) (y ∷ ys) same =
    let head : x ≡ y = same_Some x y (same 0) in
    let tail : xs ≡ ys = same_rows xs ys (λ m. same (suc m)) in cc

-- ---- one change

pub at_key_reads : {X : Type 0} (change : X → X) (key : Option ℕ) (rows : List X) (m : ℕ)
    → slice_get (at_key change key rows) m
    ≡ option_map (changed_if change (is_key m key)) (slice_get rows m)
at_key_reads change None rows m =
    elim (slice_get rows m) as (λ o. o ≡ option_map (λ x. x) o) [ None ↦ refl | Some x ↦ refl ]
at_key_reads change (Some k) rows m =
    elim (cases_eq k m) [
      | inl same ↦ rw (same, eq-eqb m m refl) (slice_get-at_row_same change m rows)
      | inr other ↦
          rw (ne_eqb k m other)
          (slice_get-at_row_other change k m rows (λ e. other (sym e))
          ∙ (elim (slice_get rows m) as (λ o. o ≡ option_map (λ x. x) o) [
            | None ↦ refl
            | Some x ↦ refl
          ]))
    ]

-- ---- one after another

option_map_twice : {X : Type 0} (change : X → X) → ((x : X) → change (change x) ≡ change x)
    → (a b : Bool) (o : Option X)
    → option_map (changed_if change b) (option_map (changed_if change a) o)
    ≡ option_map (changed_if change (a || b)) o
option_map_twice change twice a b None = refl
option_map_twice change twice true true (Some x) = ap Some (twice x)
option_map_twice change twice true false (Some x) = refl
option_map_twice change twice false b (Some x) = refl

-- A change that has no further effect when it is repeated is made exactly at the rows that a key
-- names.
pub fold_reads : {X : Type 0} (change : X → X) → ((x : X) → change (change x) ≡ change x)
    → (key : ℕ → Option ℕ) (ns : List ℕ) (rows : List X) (m : ℕ)
    → slice_get (fold (λ changed n. at_key change (key n) changed) rows ns) m
    ≡ option_map (changed_if change (list_any (λ n. is_key m (key n)) ns)) (slice_get rows m)
fold_reads change twice key [] rows m =
    elim (slice_get rows m) as (λ o. o ≡ option_map (λ x. x) o) [ None ↦ refl | Some x ↦ refl ]
fold_reads change twice key (n ∷ ns) rows m =
    fold_reads change twice key ns (at_key change (key n) rows) m
    ∙ ap (option_map (changed_if change (list_any (λ k. is_key m (key k)) ns)))
    (at_key_reads change (key n) rows m)
    ∙ option_map_twice change twice (is_key m (key n)) (list_any (λ k. is_key m (key k)) ns)
    (slice_get rows m)

-- ---- the numbers that pass a test

any_kept : (pass : ℕ → Bool) (a : ℕ) (ns : List ℕ) (t p : Bool) → pass a ≡ p
    → list_any pass (if t then a ∷ ns else ns) ≡ ((p && t) || list_any pass ns)
any_kept pass a ns true true e = ap (λ b. b || list_any pass ns) e
any_kept pass a ns true false e = ap (λ b. b || list_any pass ns) e
any_kept pass a ns false true e = refl
any_kept pass a ns false false e = refl

-- A number passes among the kept ones if a row passes both tests.
pub any_picked : {X : Type 0} (test pass : ℕ → Bool) (both : X → Bool) (rows : List X) (a : ℕ)
    → ((n m : ℕ) (row : X) → slice_get rows n ≡ Some row → m ≡ a + n
    → (pass m && test m) ≡ both row)
    → list_any pass (filter test (range_with_len a (length rows))) ≡ list_any both rows
any_picked test pass both [] a same = refl
any_picked test pass both (row ∷ rows) a same =
    let rest :
    (n m : ℕ) (x : _) → slice_get rows n ≡ Some x → m ≡ (a + 1) + n
    → (pass m && test m) ≡ both x =
    (λ n m x found e. same (suc n) m x found (omega (arith, e))) in
    any_kept pass a (filter test (range_with_len (a + 1) (length rows))) (test a) (pass a) refl
    ∙ ap (λ b. b || list_any pass (filter test (range_with_len (a + 1) (length rows))))
    (same 0 a row refl (omega arith))
    ∙ ap (λ b. both row || b) (any_picked test pass both rows (a + 1) rest)

none_before : (test : ℕ → Bool) (m a n : ℕ) → m < a
    → list_any (λ k. k == m) (filter test (range_with_len a n)) ≡ false
none_before test m a zero less = refl
none_before test m a (suc n) less =
    any_kept (λ k. k == m) a (filter test (range_with_len (a + 1) n)) (test a) false
    (ne_eqb a m (omega (arith, less)))
    ∙ none_before test m (a + 1) n (omega (arith, less))

-- A number is kept exactly if it passes the test.
pub number_picked : (test : ℕ → Bool) (m a n : ℕ) → a ≤ m → m < a + n
    → list_any (λ k. k == m) (filter test (range_with_len a n)) ≡ test m
number_picked test m a zero low high = absurd (omega (arith, low, high))
number_picked test m a (suc n) low high =
    elim (cases_eq a m) [
      | inl same ↦
          rw same
          (any_kept (λ k. k == m) m (filter test (range_with_len (m + 1) n)) (test m) true
          (eq-eqb m m refl)
          ∙ ap (λ b. test m || b) (none_before test m (m + 1) n (omega arith))
          ∙ or-false (test m))
      | inr other ↦
          any_kept (λ k. k == m) a (filter test (range_with_len (a + 1) n)) (test a) false
          (ne_eqb a m other)
          ∙ number_picked test m (a + 1) n (omega (arith, low, other)) (omega (arith, high))
    ]
