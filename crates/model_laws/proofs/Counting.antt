-- How many rows pass a test.
use Rattle.run_model.proofs.Common.{◌≡◌, ◌+◌, ℕ, zero, suc, Bool, true, false, cond, List, [], ◌∷◌}
use Rattle.run_model.proofs.Common.{Some, slice_get, count_by, ap, ◌∙◌, arith, none-some}
use Rattle.run_model.proofs.Common.{same_Some, sum_by-cons, at_row}

one_if : Bool → ℕ
one_if b = cond b 1 0

count_cons : {X : Type 0} (test : X → Bool) (row : X) (rows : List X)
    → count_by test (row ∷ rows) ≡ one_if (test row) + count_by test rows
unfolding one_if
count_cons test row rows = sum_by-cons (λ x. cond (test x) 1 0) row rows

count_passing : {X : Type 0} (test : X → Bool) (row : X) (rows : List X) → test row ≡ true
    → count_by test (row ∷ rows) ≡ 1 + count_by test rows
unfolding one_if
count_passing test row rows passes =
    count_cons test row rows ∙ ap (λ (b : Bool). one_if b + count_by test rows) passes

count_failing : {X : Type 0} (test : X → Bool) (row : X) (rows : List X) → test row ≡ false
    → count_by test (row ∷ rows) ≡ count_by test rows
unfolding one_if
count_failing test row rows fails =
    let counted =
    count_cons test row rows ∙ ap (λ (b : Bool). one_if b + count_by test rows) fails in
    omega (arith, counted)

-- If one row no longer passes, the count is less by one.
pub count_lost : {X : Type 0} (test : X → Bool) (change : X → X) (n : ℕ) (rows : List X) (row : X)
    → slice_get rows n ≡ Some row → test row ≡ true → ((r : X) → test (change r) ≡ false)
    → count_by test (at_row change n rows) + 1 ≡ count_by test rows
count_lost test change n [] row found was gone = absurd (none-some row found)
count_lost test change zero (r ∷ rows) row found was gone =
    let new = count_failing test (change r) rows (gone r) in
    let old = count_passing test r rows (ap test (same_Some r row found) ∙ was) in
    omega (arith, new, old)
count_lost test change (suc n) (r ∷ rows) row found was gone =
    let new = count_cons test r (at_row change n rows) in
    let old = count_cons test r rows in
    omega (arith, new, old, count_lost test change n rows row found was gone)
