-- A row that code has read at a number, and facts that a test of it shows.
use Rattle.run_model.proofs.Common.{◌≡◌, ◌<◌, ℕ, Bool, true, false, ltb, List, length, get_or}
use Rattle.run_model.proofs.Common.{Option, Some, None, slice_get, refl, sym, ap, ◌∙◌}
use Rattle.run_model.proofs.Common.{option_map_or, ltb-true, ltb-false, slice_get_past}
use Rattle.run_model.proofs.Common.{slice_get_read, slice_get_within, is_some, IfSome}
use Rattle.run_model.proofs.Common.{option_copied}
use Rattle.std.specs.Borrow.{Bor}

-- A row that was found in a copy of the list is in the list.
pub row_read : {X : Type 0} (rows read : List X) (n : ℕ) (row : X) → read ≡ rows
    → true ≡ ltb n (length read) → row ≡ get_or read n row → slice_get rows n ≡ Some row
row_read rows read n row same within is =
    rw (← same)
    (slice_get_read read (length read) n row refl (ltb-true n (length read) (sym within)) is)

-- The answer of a test of a row that was found.
pub test_found : {X : Type 0} (test : X → Bool) (rows read : List X) (n : ℕ) (row : X)
    (answer : Bool) → read ≡ rows → true ≡ ltb n (length read) → row ≡ get_or read n row
    → answer ≡ test row → answer ≡ option_map_or test (slice_get rows n) false
test_found {X} test rows read n row answer same within is e =
    e
    ∙ sym
    (ap (λ (o : Option X). option_map_or test o false) (row_read rows read n row same within is))

-- What was lent of a row is the row.
pub row_lent : {X : Type 0} (rows read : List X) (n : ℕ) (lent : Option (Bor X)) → read ≡ rows
    → is_some lent ≡ ltb n (length read) → IfSome lent (λ x. x.now ≡ get_or read n x.now)
    → option_copied lent ≡ slice_get rows n
row_lent rows read n None same past is =
    rw (← same) (sym (slice_get_past read n (ltb-false n (length read) (sym past))))
row_lent rows read n (Some x) same within is = sym (row_read rows read n x.now same within is)

-- The answer where none was found.
pub test_missed : {X : Type 0} (test : X → Bool) (rows read : List X) (n : ℕ) → read ≡ rows
    → false ≡ ltb n (length read) → false ≡ option_map_or test (slice_get rows n) false
test_missed {X} test rows read n same past =
    rw (← same)
    (sym
    (ap (λ (o : Option X). option_map_or test o false)
    (slice_get_past read n (ltb-false n (length read) (sym past)))))

-- A row that passes a test is there.
pub row_known : {X : Type 0} (test : X → Bool) (rows : List X) (n : ℕ)
    → option_map_or test (slice_get rows n) false ≡ true → n < length rows
row_known {X} test rows n passes = by (slice_get rows n) refl
  where
    by : (o : Option X) → slice_get rows n ≡ o → n < length rows
    by None e =
        (let no : false ≡ true =
        sym (ap (λ (o : Option X). option_map_or test o false) e) ∙ passes in absurd cc)
    by (Some row) e = slice_get_within rows n row e
