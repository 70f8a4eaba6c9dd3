-- The lowest number that passes a test, and the ready task with the lowest number.
use Rattle.run_model.proofs.Common.{◌≡◌, ◌<◌, ◌≤◌, ◌+◌, ℕ, zero, suc, Bool, true, false, ◌&&◌}
use Rattle.run_model.proofs.Common.{length, Option, Some, None, find, cond, inl, inr, refl, sym}
use Rattle.run_model.proofs.Common.{ap, subst, ◌∙◌, arith, range_with_len, none-some, same_Some}
use Rattle.run_model.proofs.Common.{cases_lt, both_ways, false_from_ne_true, WorkState, is_fresh}
use Rattle.run_model.proofs.Common.{is_admitted, is_ready, first_ready}
use Rattle.model_laws.specs.Queues.{IsLeastReady}
use Rattle.model_laws.proofs.Places.{passing_within}

-- ---- in a range

pub record IsFirstIn (test : ℕ → Bool) (a n : ℕ) : Type 0 where
  pub passes : test n ≡ true
  pub from : a ≤ n
  pub before : (m : ℕ) → a ≤ m → m < n → test m ≡ false

found_here : (test : ℕ → Bool) (a n : ℕ) → test a ≡ true → a ≡ n → IsFirstIn test a n
found_here test a n here same = record {
  passes = subst (λ (k : ℕ). test k ≡ true) same here;
  from = omega (arith, same);
  before = λ m low high. absurd (omega (arith, same, low, high));
}

-- What holds from the next number on, and at this one, holds from this one on.
fails_from : (test : ℕ → Bool) (a m : ℕ) → test a ≡ false → (a + 1 ≤ m → test m ≡ false) → a ≤ m
    → test m ≡ false
fails_from test a m here rest low =
    elim (cases_lt a m) [
      | inl less ↦ rest (omega (arith, less))
      | inr most ↦ subst (λ (k : ℕ). test k ≡ false) (omega (arith, low, most)) here
    ]

found_first : (test : ℕ → Bool) (a len n : ℕ) → find test (range_with_len a len) ≡ Some n
    → IsFirstIn test a n
found_first test a zero n e = absurd (none-some n e)
found_first test a (suc len) n e = go (test a) refl (found_first test (a + 1) len n) e
  where
    go : (passes : Bool) → test a ≡ passes
        → (find test (range_with_len (a + 1) len) ≡ Some n → IsFirstIn test (a + 1) n)
        → cond passes (Some a) (find test (range_with_len (a + 1) len)) ≡ Some n
        → IsFirstIn test a n
    go true here rest at = found_here test a n here (same_Some a n at)
    go false here rest at =
        let behind : IsFirstIn test (a + 1) n = rest at in
        record {
          passes = behind.passes;
          from = omega (arith, behind.from);
          before = λ m low high. fails_from test a m here (λ more. behind.before m more high) low;
        }

found_none : (test : ℕ → Bool) (a len : ℕ) → find test (range_with_len a len) ≡ None
    → (m : ℕ) → a ≤ m → m < a + len → test m ≡ false
found_none test a zero e m low high = absurd (omega (arith, low, high))
found_none test a (suc len) e m low high =
    go (test a) refl (λ rest more. found_none test (a + 1) len rest m more (omega (arith, high))) e
  where
    go : (passes : Bool) → test a ≡ passes
        → (find test (range_with_len (a + 1) len) ≡ None → a + 1 ≤ m → test m ≡ false)
        → cond passes (Some a) (find test (range_with_len (a + 1) len)) ≡ None
        → test m ≡ false
    go true here rest at = absurd (none-some a (sym at))
    go false here rest at = fails_from test a m here (rest at) low

-- ---- the least ready task

pub ready_within : (w : WorkState) (n : ℕ) → is_ready w n ≡ true → n < length w.tasks
ready_within w n ready =
    passing_within (λ task. is_fresh task.stage && is_admitted w n task) w.tasks n ready

pub first_is_least : (w : WorkState) (n : ℕ) → first_ready w ≡ Some n → IsLeastReady w n
first_is_least w n e =
    let first : IsFirstIn (is_ready w) 0 n = found_first (is_ready w) 0 (length w.tasks) n e in
    record {
      ready = first.passes;
      least =
          λ m ready.
          elim (cases_lt m n) [
            | inl less ↦
                absurd (both_ways (is_ready w m) (first.before m (omega arith) less) ready)
            | inr most ↦ most
          ];
    }

pub none_is_ready : (w : WorkState) → first_ready w ≡ None → (n : ℕ) → is_ready w n ≡ false
none_is_ready w e n =
    false_from_ne_true (is_ready w n)
    (λ ready.
    both_ways (is_ready w n)
    (found_none (is_ready w) 0 (length w.tasks) e n (omega arith)
    (omega (arith, ready_within w n ready)))
    ready)

pub least_is_first : (w : WorkState) (n : ℕ) → IsLeastReady w n → first_ready w ≡ Some n
least_is_first w n least = go (first_ready w) refl
  where
    go : (o : Option ℕ) → first_ready w ≡ o → first_ready w ≡ Some n
    go None e = absurd (both_ways (is_ready w n) (none_is_ready w e n) least.ready)
    go (Some m) e =
        let first : IsLeastReady w m = first_is_least w m e in
        let low : n ≤ m = least.least m first.ready in
        let high : m ≤ n = first.least n least.ready in
        let same : m ≡ n = omega (arith, low, high) in
        e ∙ ap Some same

pub none_is_first : (w : WorkState) → ((n : ℕ) → is_ready w n ≡ false) → first_ready w ≡ None
none_is_first w none = go (first_ready w) refl
  where
    go : (o : Option ℕ) → first_ready w ≡ o → first_ready w ≡ None
    go None e = e
    go (Some m) e =
        let first : IsLeastReady w m = first_is_least w m e in
        absurd (both_ways (is_ready w m) (none m) first.ready)
