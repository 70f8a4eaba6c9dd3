-- The numbers of rows that pass a test, and how many rows pass it: only rows that go on do.
use Rattle.run_model.proofs.Common.{◌≡◌, ◌+◌, ◌<◌, ◌||◌, ℕ, zero, suc, Bool, true, false, cond}
use Rattle.run_model.proofs.Common.{List, [], ◌∷◌, ◌++◌, length, map, take, Option, Some, None}
use Rattle.run_model.proofs.Common.{slice_get, refl, sym, ap, ◌∙◌, arith, list_any, range_with_len}
use Rattle.run_model.proofs.Common.{option_map, option_or, count_by, if◌then◌else◌, is_some}
use Rattle.run_model.proofs.Common.{take_all, map-append}
use Rattle.std.specs.List.{filter, find}
use Rattle.std.proofs.lemmas.List.Elements.{filter-append}
use Rattle.std.proofs.lemmas.List.Folds.{find-append}
use Rattle.state_renewal.specs.Renewed.{cons_if, kept, new_number, one_more_if, rows_renumbered}
use Rattle.model_laws.proofs.Admission.{count_cons}
use Rattle.state_renewal.proofs.Numbers.{number_after}
use Rattle.state_renewal.proofs.RowsRenumbered.{length-renumbered}

-- ---- numbers that pass

range_more : (a n : ℕ)
    → range_with_len a (suc n) ≡ range_with_len a n ++ (a + n) ∷ []
range_more a zero = let e : a ≡ a + 0 = omega arith in ap (λ k. k ∷ []) e
range_more a (suc n) =
    let e : (a + 1) + n ≡ a + suc n = omega arith in
    ap (λ ks. a ∷ ks) (range_more (a + 1) n)
    ∙ ap (λ k. a ∷ (range_with_len (a + 1) n ++ k ∷ [])) e

numbers_more : (n : ℕ) → range_with_len 0 (suc n) ≡ range_with_len 0 n ++ n ∷ []
numbers_more n =
    let e : 0 + n ≡ n = omega arith in
    range_more 0 n ∙ ap (λ k. range_with_len 0 n ++ k ∷ []) e

-- A row that goes on passes the new test if it passed the old one, and no other row passed the old
-- one.
pub record PassesRenumbered (goes : ℕ → Bool) (test new_test : ℕ → Bool) (many : ℕ) : Type 0 where
  pub on : (n : ℕ) → n < many → goes n ≡ true → new_test (new_number goes n) ≡ test n
  pub gone : (n : ℕ) → n < many → goes n ≡ false → test n ≡ false

passes_less : (goes : ℕ → Bool) (test new_test : ℕ → Bool) (n : ℕ)
    → PassesRenumbered goes test new_test (suc n) → PassesRenumbered goes test new_test n
passes_less goes test new_test n pass = record {
  on = λ k less. pass.on k (omega (arith, less));
  gone = λ k less. pass.gone k (omega (arith, less));
}

append_none : (xs : List ℕ) → xs ++ [] ≡ xs
append_none [] = refl
append_none (x ∷ xs) = ap (λ ys. x ∷ ys) (append_none xs)

pub picks_renumbered : (goes : ℕ → Bool) (test new_test : ℕ → Bool) (n : ℕ)
    → PassesRenumbered goes test new_test n
    → filter new_test (range_with_len 0 (new_number goes n))
    ≡ map (new_number goes) (filter test (range_with_len 0 n))
picks_renumbered goes test new_test zero pass = refl
picks_renumbered goes test new_test (suc n) pass =
    by_last (goes n) refl
    (picks_renumbered goes test new_test n (passes_less goes test new_test n pass))
  where
    was : filter test (range_with_len 0 (suc n))
        ≡ filter test (range_with_len 0 n) ++ cond (test n) (n ∷ []) []
    was =
        ap (filter test) (numbers_more n)
        ∙ filter-append test (range_with_len 0 n) (n ∷ [])

    last : (b : Bool)
        → cond b (new_number goes n ∷ []) [] ≡ map (new_number goes) (cond b (n ∷ []) [])
    last true = refl
    last false = refl

    by_last : (b : Bool) → goes n ≡ b
        → filter new_test (range_with_len 0 (new_number goes n))
        ≡ map (new_number goes) (filter test (range_with_len 0 n))
        → filter new_test (range_with_len 0 (one_more_if b (new_number goes n)))
        ≡ map (new_number goes) (filter test (range_with_len 0 (suc n)))
    by_last true is before =
        let new = new_number goes n in
        ap (filter new_test) (numbers_more new)
        ∙ filter-append new_test (range_with_len 0 new) (new ∷ [])
        ∙ ap (λ ns. ns ++ cond (new_test new) (new ∷ []) []) before
        ∙ ap (λ b. map (new_number goes) (filter test (range_with_len 0 n))
        ++ cond b (new ∷ []) []) (pass.on n (omega arith) is)
        ∙ ap (λ ns. map (new_number goes) (filter test (range_with_len 0 n)) ++ ns)
        (last (test n))
        ∙ sym (map-append (new_number goes) (filter test (range_with_len 0 n))
        (cond (test n) (n ∷ []) []))
        ∙ ap (map (new_number goes)) (sym was)
    by_last false is before =
        before
        ∙ ap (map (new_number goes))
        (sym (was
        ∙ ap (λ b. filter test (range_with_len 0 n) ++ cond b (n ∷ []) [])
        (pass.gone n (omega arith) is)
        ∙ append_none (filter test (range_with_len 0 n))))

pub find_renumbered : (goes : ℕ → Bool) (test new_test : ℕ → Bool) (n : ℕ)
    → PassesRenumbered goes test new_test n
    → find new_test (range_with_len 0 (new_number goes n))
    ≡ option_map (new_number goes) (find test (range_with_len 0 n))
find_renumbered goes test new_test zero pass = refl
find_renumbered goes test new_test (suc n) pass =
    by_last (goes n) refl
    (find_renumbered goes test new_test n (passes_less goes test new_test n pass))
  where
    was : find test (range_with_len 0 (suc n))
        ≡ option_or (find test (range_with_len 0 n)) (cond (test n) (Some n) None)
    was =
        ap (find test) (numbers_more n)
        ∙ find-append test (range_with_len 0 n) (n ∷ [])

    last : (o : Option ℕ) (b : Bool)
        → option_or (option_map (new_number goes) o) (cond b (Some (new_number goes n)) None)
        ≡ option_map (new_number goes) (option_or o (cond b (Some n) None))
    last (Some k) b = refl
    last None true = refl
    last None false = refl

    or_none : (o : Option ℕ) → option_or o None ≡ o
    or_none None = refl
    or_none (Some k) = refl

    by_last : (b : Bool) → goes n ≡ b
        → find new_test (range_with_len 0 (new_number goes n))
        ≡ option_map (new_number goes) (find test (range_with_len 0 n))
        → find new_test (range_with_len 0 (one_more_if b (new_number goes n)))
        ≡ option_map (new_number goes) (find test (range_with_len 0 (suc n)))
    by_last true is before =
        let new = new_number goes n in
        ap (find new_test) (numbers_more new)
        ∙ find-append new_test (range_with_len 0 new) (new ∷ [])
        ∙ ap (λ o. option_or o (cond (new_test new) (Some new) None)) before
        ∙ ap (λ b. option_or (option_map (new_number goes) (find test (range_with_len 0 n)))
        (cond b (Some new) None)) (pass.on n (omega arith) is)
        ∙ last (find test (range_with_len 0 n)) (test n)
        ∙ ap (option_map (new_number goes)) (sym was)
    by_last false is before =
        before
        ∙ ap (option_map (new_number goes))
        (sym (was
        ∙ ap (λ b. option_or (find test (range_with_len 0 n)) (cond b (Some n) None))
        (pass.gone n (omega arith) is)
        ∙ or_none (find test (range_with_len 0 n))))

any_is_found : (test : ℕ → Bool) (ns : List ℕ) → list_any test ns ≡ is_some (find test ns)
any_is_found test [] = refl
any_is_found test (n ∷ ns) =
    elim (test n) as (λ b. (b || list_any test ns) ≡ is_some (cond b (Some n) (find test ns)))
    [ true ↦ refl | false ↦ any_is_found test ns ]

-- A number passes the new test exactly if one passed the old test.
pub some_renumbered : (goes : ℕ → Bool) (test new_test : ℕ → Bool) (n : ℕ)
    → PassesRenumbered goes test new_test n
    → list_any new_test (range_with_len 0 (new_number goes n))
    ≡ list_any test (range_with_len 0 n)
some_renumbered goes test new_test n pass =
    any_is_found new_test (range_with_len 0 (new_number goes n))
    ∙ ap is_some (find_renumbered goes test new_test n pass)
    ∙ restated (find test (range_with_len 0 n))
    ∙ sym (any_is_found test (range_with_len 0 n))
  where
    restated : (o : Option ℕ) → is_some (option_map (new_number goes) o) ≡ is_some o
    restated None = refl
    restated (Some k) = refl

-- ---- rows that pass

-- Rows that go on pass the new test, by their new numbers, as they passed the old one. No others
-- passed the old one.
pub record RowsPass
    {X : Type 0} (goes : ℕ → Bool) (renumber : X → X) (test new_test : X → Bool) (rows : List X)
    : Type 0 where
  pub on : (n : ℕ) (x : X) → slice_get rows n ≡ Some x → goes n ≡ true
      → new_test (renumber x) ≡ test x
  pub gone : (n : ℕ) (x : X) → slice_get rows n ≡ Some x → goes n ≡ false → test x ≡ false

pass_after : {X : Type 0} (goes : ℕ → Bool) (renumber : X → X) (test new_test : X → Bool) (r : X)
    (rows : List X) → RowsPass goes renumber test new_test (r ∷ rows)
    → RowsPass (λ n. goes (suc n)) renumber test new_test rows
pass_after goes renumber test new_test r rows pass =
    record { on = λ n. pass.on (suc n); gone = λ n. pass.gone (suc n) }

take_none : {X : Type 0} (n : ℕ) → take {A = X} n [] ≡ []
take_none zero = refl
take_none (suc n) = refl

-- As many rows before a row that goes on pass as passed before it.
pub count_renumbered : {X : Type 0} (goes : ℕ → Bool) (renumber : X → X) (test new_test : X → Bool)
    (rows : List X) (n : ℕ) → RowsPass goes renumber test new_test rows
    → count_by new_test (take (new_number goes n) (rows_renumbered goes renumber rows))
    ≡ count_by test (take n rows)
count_renumbered goes renumber test new_test [] n pass =
    ap (count_by new_test) (take_none (new_number goes n))
    ∙ ap (count_by test) (sym (take_none n))
count_renumbered goes renumber test new_test (r ∷ rows) zero pass = refl
count_renumbered {X = X} goes renumber test new_test (r ∷ rows) (suc n) pass =
    ap (λ k. count_by new_test (take k (rows_renumbered goes renumber (r ∷ rows))))
    (number_after goes n)
    ∙ by_first (goes zero) refl
    (count_renumbered (λ k. goes (suc k)) renumber test new_test rows n
    (pass_after goes renumber test new_test r rows pass))
  where
    rest : List X
    rest = kept (λ k. goes (suc k)) rows

    m : ℕ
    m = new_number (λ k. goes (suc k)) n

    by_first : (b : Bool) → goes zero ≡ b
        → count_by new_test (take m (map renumber rest)) ≡ count_by test (take n rows)
        → count_by new_test (take (one_more_if b m) (map renumber (cons_if b r rest)))
        ≡ count_by test (take (suc n) (r ∷ rows))
    by_first true is behind =
        count_cons new_test (renumber r) (take m (map renumber rest))
        ∙ ap (λ b. (if b then 1 else 0) + count_by new_test (take m (map renumber rest)))
        (pass.on zero r refl is)
        ∙ ap (λ k. (if test r then 1 else 0) + k) behind
        ∙ sym (count_cons test r (take n rows))
    by_first false is behind =
        let e : count_by test (take n rows) ≡ 0 + count_by test (take n rows) = omega arith in
        behind ∙ e
        ∙ ap (λ b. (if b then 1 else 0) + count_by test (take n rows))
        (sym (pass.gone zero r refl is))
        ∙ sym (count_cons test r (take n rows))

-- As many rows pass as passed before.
pub count_all_renumbered : {X : Type 0} (goes : ℕ → Bool) (renumber : X → X)
    (test new_test : X → Bool)
    (rows : List X) → RowsPass goes renumber test new_test rows
    → count_by new_test (rows_renumbered goes renumber rows) ≡ count_by test rows
count_all_renumbered goes renumber test new_test rows pass =
    let many = length-renumbered goes renumber rows in
    ap (count_by new_test)
    (sym (take_all (new_number goes (length rows)) (rows_renumbered goes renumber rows)
    (omega (arith, many))))
    ∙ count_renumbered goes renumber test new_test rows (length rows) pass
    ∙ ap (count_by test) (take_all (length rows) rows (omega arith))

-- Some row passes exactly if some row passed before.
pub any_renumbered : {X : Type 0} (goes : ℕ → Bool) (renumber : X → X) (test new_test : X → Bool)
    (rows : List X) → RowsPass goes renumber test new_test rows
    → list_any new_test (rows_renumbered goes renumber rows) ≡ list_any test rows
any_renumbered goes renumber test new_test [] pass = refl
any_renumbered {X = X} goes renumber test new_test (r ∷ rows) pass =
    by_first (goes zero) refl
    (any_renumbered (λ k. goes (suc k)) renumber test new_test rows
    (pass_after goes renumber test new_test r rows pass))
  where
    rest : List X
    rest = kept (λ k. goes (suc k)) rows

    by_first : (b : Bool) → goes zero ≡ b
        → list_any new_test (map renumber rest) ≡ list_any test rows
        → list_any new_test (map renumber (cons_if b r rest)) ≡ list_any test (r ∷ rows)
    by_first true is behind =
        ap (λ b. b || list_any new_test (map renumber rest)) (pass.on zero r refl is)
        ∙ ap (λ b. test r || b) behind
    by_first false is behind =
        behind ∙ ap (λ b. b || list_any test rows) (sym (pass.gone zero r refl is))
