-- Tests that return truth values, rows before a place, and links that are tested one by one.
use Rattle.run_model.proofs.Common.{◌≡◌, ℕ, zero, suc, ◌<◌, ◌==◌, ◌&&◌, ◌||◌, not, Bool, true}
use Rattle.run_model.proofs.Common.{false, List, [], ◌∷◌, take, Option, Some, None, slice_get}
use Rattle.run_model.proofs.Common.{refl, sym, ap, ◌∙◌, arith, ◌↔◌, list_any, option_map_or}
use Rattle.run_model.proofs.Common.{eqb-true, eq-eqb, none-some, same_Some, bytes_eq-Decides}
use Rattle.run_model.proofs.Common.{IsRetry, is_retry_of, and_from, not_from_false}
use Rattle.run_model.specs.declared.tasks.Task.{Task}
use Rattle.row_view.proofs.Codecs.{first_true, second_true}
use Rattle.row_view.specs.WorkRows.{both_or_neither, can_retry, is_linked}

-- ---- tests of truth

pub or_right : (a b : Bool) → (not a || b) ≡ true → a ≡ true → b ≡ true
or_right true b e is = e
or_right false b e is = absurd (cc)

pub or_from : (a b : Bool) → (a ≡ true → b ≡ true) → (not a || b) ≡ true
or_from true b e = e refl
or_from false b e = refl

pub both_iff : (a b : Bool) → both_or_neither a b ≡ true → (a ≡ true) ↔ (b ≡ true)
both_iff true true e = (λ _. refl, λ _. refl)
both_iff true false e = absurd (cc)
both_iff false true e = absurd (cc)
both_iff false false e = (λ h. h, λ h. h)

pub iff_both : (a b : Bool) → (a ≡ true) ↔ (b ≡ true) → both_or_neither a b ≡ true
iff_both true b e = e.0 refl
iff_both false true e = absurd (let h = e.1 refl in cc)
iff_both false false e = refl

pub not_so : (b : Bool) → not b ≡ true → b ≡ false
not_so true e = absurd (cc)
not_so false e = refl

-- ---- rows before a place

pub taken : {X : Type 0} (rows : List X) (k s : ℕ) (x : X) → s < k → slice_get rows s ≡ Some x
    → slice_get (take k rows) s ≡ Some x
taken [] k s x less found = absurd (none-some x found)
taken (r ∷ rows) zero s x less found = absurd (omega (arith, less))
taken (r ∷ rows) (suc k) zero x less found = found
taken (r ∷ rows) (suc k) (suc s) x less found = taken rows k s x (omega (arith, less)) found

pub untaken : {X : Type 0} (rows : List X) (k s : ℕ) (x : X) → slice_get (take k rows) s ≡ Some x
    → (s < k) × (slice_get rows s ≡ Some x)
untaken [] zero s x found = absurd (none-some x found)
untaken [] (suc k) s x found = absurd (none-some x found)
untaken (r ∷ rows) zero s x found = absurd (none-some x found)
untaken (r ∷ rows) (suc k) zero x found = (omega arith, found)
untaken (r ∷ rows) (suc k) (suc s) x found =
    let more = untaken rows k s x found in (omega (arith, more.0), more.1)

-- ---- some row passes

pub some_at : {X : Type 0} (test : X → Bool) (rows : List X) → list_any test rows ≡ true
    → (n : ℕ) × (x : X) × (slice_get rows n ≡ Some x) × (test x ≡ true)
some_at test [] any = absurd (cc)
some_at {X = X} test (r ∷ rows) any = by_first (test r) refl (λ e. some_at test rows e) any
  where
    by_first : (b : Bool) → test r ≡ b
        → (list_any test rows ≡ true
        → (n : ℕ) × (x : X) × (slice_get rows n ≡ Some x) × (test x ≡ true))
        → (b || list_any test rows) ≡ true
        → (n : ℕ) × (x : X) × (slice_get (r ∷ rows) n ≡ Some x) × (test x ≡ true)
    by_first true ok behind any = (0, r, refl, ok)
    by_first false fails behind any =
        let there = behind any in (suc there.0, there.1, there.2, there.3)

-- ---- links

-- The test of a link: it names an earlier row that can be retried, and no earlier row names it.
pub record IsLinkRight (before : List Task) (row : Task) (m : ℕ) : Type 0 where
  pub old : Task
  pub found : slice_get before m ≡ Some old
  pub can : can_retry row old ≡ true
  pub first : list_any (is_retry_of m) before ≡ false

pub link_right : (before : List Task) (row : Task) (m : ℕ) → is_linked before row ≡ true
    → row.retry_of ≡ Some m → IsLinkRight before row m
link_right before row m ok is =
    by_link row.retry_of ok is
  where
    by_old : (found : Option Task) → slice_get before m ≡ found
        → option_map_or (can_retry row) found false ≡ true
        → list_any (is_retry_of m) before ≡ false → IsLinkRight before row m
    by_old None at ok first = absurd (cc)
    by_old (Some old) at ok first = record { old = old; found = at; can = ok; first = first }

    by_link : (link : Option ℕ)
        → option_map_or
        (λ m. option_map_or (can_retry row) (slice_get before m) false
        && not (list_any (is_retry_of m) before)) link true ≡ true
        → link ≡ Some m → IsLinkRight before row m
    by_link None ok e = absurd (none-some m e)
    by_link (Some k) ok e =
        let same : k ≡ m = same_Some k m e in
        let here = ap (λ n. option_map_or (can_retry row) (slice_get before n) false
        && not (list_any (is_retry_of n) before)) (sym same) ∙ ok in
        by_old (slice_get before m) refl (first_true _ _ here)
        (not_so (list_any (is_retry_of m) before) (second_true _ _ here))

pub link_from : (before : List Task) (row : Task)
    → ((m : ℕ) → row.retry_of ≡ Some m → IsLinkRight before row m) → is_linked before row ≡ true
link_from before row right = by_link row.retry_of right
  where
    by_link : (link : Option ℕ) → ((m : ℕ) → link ≡ Some m → IsLinkRight before row m)
        → option_map_or
        (λ m. option_map_or (can_retry row) (slice_get before m) false
        && not (list_any (is_retry_of m) before)) link true ≡ true
    by_link None right = refl
    by_link (Some m) right =
        let it = right m refl in
        and_from _ _
        (ap (λ o. option_map_or (can_retry row) o false) it.found ∙ it.can)
        (not_from_false (list_any (is_retry_of m) before) it.first)

-- The facts of a retry, as a test.
pub retry_facts : (n m : ℕ) (new old : Task) → m < n → can_retry new old ≡ true
    → IsRetry n new m old
retry_facts n m new old less ok =
    let a = first_true _ _ ok in
    let b = first_true _ _ a in
    record {
      before = less;
      interrupted = first_true _ _ b;
      group = eqb-true new.group old.group (second_true _ _ b);
      job = (bytes_eq-Decides new.job old.job).0 (second_true _ _ a);
      argument = (bytes_eq-Decides new.argument old.argument).0 (second_true _ _ ok);
    }

pub retry_test : (n m : ℕ) (new old : Task) → IsRetry n new m old → can_retry new old ≡ true
retry_test n m new old is =
    and_from _ _
    (and_from _ _
    (and_from _ _ is.interrupted (eq-eqb new.group old.group is.group))
    ((bytes_eq-Decides new.job old.job).1 is.job))
    ((bytes_eq-Decides new.argument old.argument).1 is.argument)

pub names_it : (m : ℕ) (row : Task) → row.retry_of ≡ Some m → is_retry_of m row ≡ true
names_it m row is = ap (λ o. option_map_or (λ k. k == m) o false) is ∙ eq-eqb m m refl

pub is_named : (m : ℕ) (row : Task) → is_retry_of m row ≡ true → row.retry_of ≡ Some m
is_named m row ok = by_link row.retry_of ok
  where
    by_link : (link : Option ℕ) → option_map_or (λ k. k == m) link false ≡ true → link ≡ Some m
    by_link None ok = absurd (cc)
    by_link (Some k) ok = ap Some (eqb-true k m ok)
