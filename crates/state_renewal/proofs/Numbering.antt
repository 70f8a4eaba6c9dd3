-- Numbers made one by one.
use Rattle.std.proofs.Common.{◌≡◌, ◌⊎◌, ◌<◌, ◌≤◌, ◌+◌, ℕ, Bool, true, false, List, [], ◌∷◌, ◌++◌}
use Rattle.std.proofs.Common.{length, Some, slice_get, inl, inr, refl, sym, ap, ◌∙◌, arith, add-one}
use Rattle.std.proofs.Common.{length-append}
use Rattle.std.proofs.lemmas.Bool.{cases_lt}
use Rattle.run_model.proofs.RowLemmas.{slice_get-push_last, slice_get-push_left}
use Rattle.state_renewal.specs.Marks.{is_flagged}
use Rattle.state_renewal.specs.Renewed.{new_number, one_more_if}

-- The new number after a kept row is greater by one.
pub number_kept : (keeps : ℕ → Bool) (n : ℕ) → keeps n ≡ true
    → new_number keeps (n + 1) ≡ new_number keeps n + 1
number_kept keeps n is =
    ap (new_number keeps) (add-one n) ∙ ap (λ b. one_more_if b (new_number keeps n)) is
    ∙ sym (add-one (new_number keeps n))

-- The new number after a dropped row is the same.
pub number_gone : (keeps : ℕ → Bool) (n : ℕ) → keeps n ≡ false
    → new_number keeps (n + 1) ≡ new_number keeps n
number_gone keeps n is =
    ap (new_number keeps) (add-one n) ∙ ap (λ b. one_more_if b (new_number keeps n)) is

-- These are the new numbers of the first k rows.
pub record AreNumbers (flags : List Bool) (k : ℕ) (numbers : List ℕ) : Type 0 where
  pub size : length numbers ≡ k
  pub each : (n : ℕ) → n < k
      → slice_get numbers n ≡ Some (new_number (is_flagged flags) n)

pub numbers_none : (flags : List Bool) → AreNumbers flags 0 []
numbers_none flags = record { size = refl; each = λ n less. absurd (omega (arith, less)) }

-- One more number was made.
pub numbers_more : (flags : List Bool) (k next : ℕ) (numbers : List ℕ) → AreNumbers flags k numbers
    → next ≡ new_number (is_flagged flags) k → AreNumbers flags (k + 1) (numbers ++ next ∷ [])
numbers_more flags k next numbers so is = record {
  size = length-append numbers (next ∷ []) ∙ ap (λ n. n + 1) so.size;
  each = λ n less. by_order n less (cases_lt n k);
}
  where
    by_order : (n : ℕ) → n < k + 1 → (n < k) ⊎ (k ≤ n)
        → slice_get (numbers ++ next ∷ []) n ≡ Some (new_number (is_flagged flags) n)
    by_order n less (inl before) =
        let size = so.size in
        slice_get-push_left numbers next n (omega (arith, before, size)) ∙ so.each n before
    by_order n less (inr behind) =
        let last : n ≡ k = omega (arith, less, behind) in
        ap (slice_get (numbers ++ next ∷ [])) (last ∙ sym so.size)
        ∙ slice_get-push_last numbers next ∙ ap Some is
        ∙ ap (λ m. Some (new_number (is_flagged flags) m)) (sym last)

-- The last number is the one after all rows.
pub numbers_all : (flags : List Bool) (k next : ℕ) (numbers : List ℕ) → AreNumbers flags k numbers
    → next ≡ new_number (is_flagged flags) k → length flags ≤ k → (n : ℕ) → n ≤ length flags
    → slice_get (numbers ++ next ∷ []) n ≡ Some (new_number (is_flagged flags) n)
numbers_all flags k next numbers so is all n less =
    (numbers_more flags k next numbers so is).each n (omega (arith, all, less))
