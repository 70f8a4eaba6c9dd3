-- The admitted tasks of a group are its first ones.
use Rattle.run_model.proofs.Common.{◌≡◌, ◌<◌, ◌≤◌, ◌+◌, ◌-◌, ℕ, zero, suc, Bool, true, false, ◌&&◌}
use Rattle.run_model.proofs.Common.{◌==◌, cond, nat_lt, List, [], ◌∷◌, length, take, Option, Some}
use Rattle.run_model.proofs.Common.{None, slice_get, filter, get_or, refl, sym, ap, ◌∙◌, arith}
use Rattle.run_model.proofs.Common.{ltb-true, ltb-false, eqb-true, range_with_len, option_map_or}
use Rattle.run_model.proofs.Common.{get_or_from_slice_get, WorkState, is_unfinished, unfinished_in}
use Rattle.run_model.proofs.Common.{admits, limit_of, is_admitted, row_there}
use Rattle.std.proofs.Math.Bool.{and-true}
use Rattle.std.proofs.lemmas.List.Sums.{count_by_more_yes, count_by_more_no}
use Rattle.run_model.specs.declared.tasks.Task.{Task}
use Rattle.model_laws.specs.Queues.{is_unfinished_of, is_admitted_of, unfinished_tasks}
use Rattle.model_laws.specs.Queues.{admitted_tasks}

-- ---- ranks

-- Each number that passes a test adds one to the count before the numbers after it.
pub record Ranks (test : ℕ → Bool) (rank : ℕ → ℕ) (len : ℕ) : Type 0 where
  pub counts : (n : ℕ) → n < len → test n ≡ true → rank (n + 1) ≡ rank n + 1
  pub skips : (n : ℕ) → n < len → test n ≡ false → rank (n + 1) ≡ rank n

take_nil : (n : ℕ) → take {A = ℕ} n [] ≡ []
take_nil zero = refl
take_nil (suc n) = refl

take_none : {X : Type 0} (n : ℕ) (xs : List X) → n ≡ 0 → take n xs ≡ []
take_none n xs e = ap (λ (k : ℕ). take k xs) e

take_cons : {X : Type 0} (n m : ℕ) (x : X) (xs : List X) → n ≡ suc m
    → take n (x ∷ xs) ≡ x ∷ take m xs
take_cons n m x xs e = ap (λ (k : ℕ). take k (x ∷ xs)) e

-- One more number comes first: it is one of the first n if it passes and its rank is below.
one_more : (most here next a : ℕ) (admitted behind : List ℕ) (passes below : Bool)
    → nat_lt here most ≡ below → (passes ≡ true → next ≡ here + 1) → (passes ≡ false → next ≡ here)
    → admitted ≡ take (most - next) behind
    → cond (passes && below) (a ∷ admitted) admitted
    ≡ take (most - here) (cond passes (a ∷ behind) behind)
one_more most here next a admitted behind true true low counts skips rest =
    let less : here < most = ltb-true here most low in
    let step : next ≡ here + 1 = counts refl in
    ap (λ (ns : List ℕ). a ∷ ns) rest
    ∙ sym (take_cons (most - here) (most - next) a behind (omega (arith, less, step)))
one_more most here next a admitted behind true false low counts skips rest =
    let full : most ≤ here = ltb-false here most low in
    let step : next ≡ here + 1 = counts refl in
    rest
    ∙ take_none (most - next) behind (omega (arith, full, step))
    ∙ sym (take_none (most - here) (a ∷ behind) (omega (arith, full)))
one_more most here next a admitted behind false below low counts skips rest =
    rest ∙ ap (λ (k : ℕ). take (most - k) behind) (skips refl)

-- The numbers with a rank below a bound are the first ones.
first_in : (test : ℕ → Bool) (rank : ℕ → ℕ) (most a len all : ℕ) → Ranks test rank all
    → a + len ≡ all
    → filter (λ n. test n && nat_lt (rank n) most) (range_with_len a len)
    ≡ take (most - rank a) (filter test (range_with_len a len))
first_in test rank most a zero all ranks whole = sym (take_nil (most - rank a))
first_in test rank most a (suc len) all ranks whole =
    let less : a < all = omega (arith, whole) in
    one_more most (rank a) (rank (a + 1)) a _ _ (test a) (nat_lt (rank a) most) refl
    (ranks.counts a less) (ranks.skips a less)
    (first_in test rank most (a + 1) len all ranks (omega (arith, whole)))

-- ---- the tasks of a group

filter_same : (f g : ℕ → Bool) (ns : List ℕ) → ((n : ℕ) → f n ≡ g n) → filter f ns ≡ filter g ns
filter_same f g [] same = refl
filter_same f g (n ∷ ns) same =
    ap (λ (b : Bool). cond b (n ∷ filter f ns) (filter f ns)) (same n)
    ∙ ap (λ (ms : List ℕ). cond (g n) (n ∷ ms) ms) (filter_same f g ns same)

-- Task n of group g is admitted by its rank among the group's unfinished tasks.
admitted_by_rank : (w : WorkState) (g n : ℕ)
    → is_admitted_of w g n
    ≡ (is_unfinished_of w g n && admits (limit_of w g) (unfinished_in g (take n w.tasks)))
admitted_by_rank w g n = go (slice_get w.tasks n)
  where
    of_group : (task : Task) (b : Bool) → (task.group == g) ≡ b
        → (b && is_admitted w n task)
        ≡ (b
        && is_unfinished task.stage
        && admits (limit_of w g) (unfinished_in g (take n w.tasks)))
    of_group task true same =
        ap
        (λ (h : ℕ).
        is_unfinished task.stage
        && admits (limit_of w h) (unfinished_in h (take n w.tasks)))
        (eqb-true task.group g same)
    of_group task false other = refl

    go : (o : Option Task)
        → option_map_or (λ task. task.group == g && is_admitted w n task) o false
        ≡ (option_map_or (λ task. task.group == g && is_unfinished task.stage) o false
        && admits (limit_of w g) (unfinished_in g (take n w.tasks)))
    go None = refl
    go (Some task) = of_group task (task.group == g) refl

unfinished_ranks : (w : WorkState) (g : ℕ)
    → Ranks (is_unfinished_of w g) (λ n. unfinished_in g (take n w.tasks)) (length w.tasks)
unfinished_ranks w g = record {
  counts = λ n less e.
      let row = row_there w.tasks n less in
      count_by_more_yes (λ task. task.group == g && is_unfinished task.stage) w.tasks n row.0 less
      (at_row n row.0 row.1 ∙ e);
  skips = λ n less e.
      let row = row_there w.tasks n less in
      count_by_more_no (λ task. task.group == g && is_unfinished task.stage) w.tasks n row.0 less
      (at_row n row.0 row.1 ∙ e);
}
  where
    at_row : (n : ℕ) (row : Task) → slice_get w.tasks n ≡ Some row
        → ((get_or w.tasks n row).group == g && is_unfinished (get_or w.tasks n row).stage)
        ≡ is_unfinished_of w g n
    at_row n row found =
        ap (λ (task : Task). task.group == g && is_unfinished task.stage)
        (get_or_from_slice_get w.tasks n row row found)
        ∙ sym
        (ap
        (λ (o : Option Task).
        option_map_or (λ task. task.group == g && is_unfinished task.stage) o false)
        found)

pub all_admitted : (w : WorkState) (g : ℕ) → limit_of w g ≡ None
    → admitted_tasks w g ≡ unfinished_tasks w g
all_admitted w g unlimited =
    filter_same _ _ (range_with_len 0 (length w.tasks))
    (λ n.
    admitted_by_rank w g n
    ∙ ap
    (λ (limit : Option ℕ).
    is_unfinished_of w g n && admits limit (unfinished_in g (take n w.tasks)))
    unlimited
    ∙ and-true (is_unfinished_of w g n))

pub first_admitted : (w : WorkState) (g most : ℕ) → limit_of w g ≡ Some most
    → admitted_tasks w g ≡ take most (unfinished_tasks w g)
first_admitted w g most limited =
    let none : unfinished_in g (take 0 w.tasks) ≡ 0 = refl in
    let all : most - unfinished_in g (take 0 w.tasks) ≡ most = omega (arith, none) in
    filter_same _ _ (range_with_len 0 (length w.tasks))
    (λ n.
    admitted_by_rank w g n
    ∙ ap
    (λ (limit : Option ℕ).
    is_unfinished_of w g n && admits limit (unfinished_in g (take n w.tasks)))
    limited)
    ∙ first_in (is_unfinished_of w g) (λ n. unfinished_in g (take n w.tasks)) most 0
    (length w.tasks) (length w.tasks) (unfinished_ranks w g) (omega arith)
    ∙ ap (λ (k : ℕ). take k (unfinished_tasks w g)) all
