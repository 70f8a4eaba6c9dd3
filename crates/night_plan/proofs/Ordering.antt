-- The order of commands, and lists that are in order.
use Rattle.std.proofs.Common.{◌≡◌, ◌<◌, ◌≤◌, ◌+◌, ◌-◌, ◌==◌, ◌⊎◌, ◌∙◌, inl, inr, ℕ}
use Rattle.std.proofs.Common.{suc}
use Rattle.std.proofs.Common.{zero, true, false, cond, List, [], ◌∷◌, ◌++◌, length, nat_lt}
use Rattle.std.proofs.Common.{refl, ap, sym, subst, arith, slice_index, append-nil, length-append}
use Rattle.std.proofs.Common.{get_or, zero-add}
use Rattle.std.proofs.lemmas.Bool.{and_from, and_parts, cases_eq, cases_lt, eq-eqb, eqb-true}
use Rattle.std.proofs.lemmas.Bool.{false_from_ne_true, lt-ltb, ltb-true, or_cases, or_left}
use Rattle.std.proofs.lemmas.Bool.{or_right}
use Rattle.std.proofs.lemmas.List.{get_or_append_left, get_or_push}
use Rattle.std.proofs.lemmas.List.Elements.{All-push, Contains-push, filter-append}
use Rattle.std.proofs.lemmas.List.Elements.{Contains-append_left}
use Rattle.std.proofs.lemmas.List.Sums.{sum_by-append}
use Rattle.std.specs.List.{AllByRecursion}
use Rattle.std.specs.Prelude.{Contains}
use Rattle.night_plan.specs.Nights.{Night}
use Rattle.night_plan.specs.Choices.{takes_at, taken, group_priority, own_priority}
use Rattle.night_plan.specs.Choices.{comes_before, AreInOrder, before, IsFull}
use Rattle.night_plan.specs.Queues.{IsUnderway}

-- Command d comes before command c, in numbers.
abbrev pub IsBefore : Night → ℕ → ℕ → Type 0
IsBefore n d c =
    (group_priority n c < group_priority n d)
    ⊎ ((group_priority n d ≡ group_priority n c)
    × ((own_priority n c < own_priority n d)
    ⊎ ((own_priority n d ≡ own_priority n c) × (d < c))))

pub before_from : (n : Night) (d c : ℕ) → IsBefore n d c → comes_before n d c ≡ true
before_from n d c (inl more) =
    or_left (nat_lt (group_priority n c) (group_priority n d)) _
    (lt-ltb (group_priority n c) (group_priority n d) more)
before_from n d c (inr (same, inl more)) =
    or_right (nat_lt (group_priority n c) (group_priority n d)) _
    (and_from (group_priority n d == group_priority n c) _ (eq-eqb _ _ same)
    (or_left (nat_lt (own_priority n c) (own_priority n d)) _
    (lt-ltb (own_priority n c) (own_priority n d) more)))
before_from n d c (inr (same, inr (also, less))) =
    or_right (nat_lt (group_priority n c) (group_priority n d)) _
    (and_from (group_priority n d == group_priority n c) _ (eq-eqb _ _ same)
    (or_right (nat_lt (own_priority n c) (own_priority n d)) _
    (and_from (own_priority n d == own_priority n c) (nat_lt d c) (eq-eqb _ _ also)
    (lt-ltb d c less))))

pub before_why : (n : Night) (d c : ℕ) → comes_before n d c ≡ true → IsBefore n d c
before_why n d c first =
    elim (or_cases (nat_lt (group_priority n c) (group_priority n d)) _ first) [
      | inl more ↦ inl (ltb-true (group_priority n c) (group_priority n d) more)
      | inr rest ↦
          let parts = and_parts (group_priority n d == group_priority n c) _ rest in
          inr (
            eqb-true _ _ parts.0,
            elim (or_cases (nat_lt (own_priority n c) (own_priority n d)) _ parts.1) [
              | inl more ↦ inl (ltb-true (own_priority n c) (own_priority n d) more)
              | inr last ↦
                  let both = and_parts (own_priority n d == own_priority n c) (nat_lt d c) last in
                  inr (eqb-true _ _ both.0, ltb-true d c both.1)
            ],
          )
    ]

not_both : (n : Night) (d c : ℕ) → IsBefore n d c → IsBefore n c d → ⊥
not_both n d c (inl a) (inl b) = omega (arith, a, b)
not_both n d c (inl a) (inr b) = let same = b.0 in omega (arith, a, same)
not_both n d c (inr a) (inl b) = let same = a.0 in omega (arith, b, same)
not_both n d c (inr (s, inl a)) (inr (t, inl b)) = omega (arith, a, b)
not_both n d c (inr (s, inl a)) (inr (t, inr b)) = let same = b.0 in omega (arith, a, same)
not_both n d c (inr (s, inr a)) (inr (t, inl b)) = let same = a.0 in omega (arith, b, same)
not_both n d c (inr (s, inr a)) (inr (t, inr b)) =
    let one = a.1 in let two = b.1 in omega (arith, one, two)

pub not_before : (n : Night) (d c : ℕ) → comes_before n d c ≡ true → comes_before n c d ≡ false
not_before n d c first = false_from_ne_true (comes_before n c d)
    (λ second. not_both n d c (before_why n d c first) (before_why n c d second))

-- ---- one more command is chosen

taken_push : (n : Night) (p : ℕ) (chosen : List ℕ) (c : ℕ)
    → taken n p (chosen ++ c ∷ []) ≡ taken n p chosen + takes_at n p c
taken_push n p chosen c =
    sum_by-append (takes_at n p) chosen (c ∷ [])
    ∙ ap (λ k. taken n p chosen + k) (zero-add (takes_at n p c))

before_push : (n : Night) (c x : ℕ) (chosen : List ℕ) → comes_before n x c ≡ false
    → before n c (chosen ++ x ∷ []) ≡ before n c chosen
before_push n c x chosen later =
    filter-append (λ d. comes_before n d c) chosen (x ∷ [])
    ∙ ap (λ b. before n c chosen ++ cond b (x ∷ []) []) later
    ∙ append-nil (before n c chosen)

before_all : (n : Night) (c : ℕ) (chosen : List ℕ)
    → AllByRecursion (λ d. comes_before n d c ≡ true) chosen → before n c chosen ≡ chosen
before_all n c [] all = refl
before_all n c (x ∷ chosen) all =
    ap (λ b. cond b (x ∷ before n c chosen) (before n c chosen)) all.0
    ∙ ap (λ ys. x ∷ ys) (before_all n c chosen all.1)

all_before : (n : Night) (c : ℕ) (chosen : List ℕ)
    → ((k : ℕ) → k < length chosen → comes_before n (slice_index chosen k) c ≡ true)
    → AllByRecursion (λ d. comes_before n d c ≡ true) chosen
all_before n c [] each = tt
all_before n c (x ∷ chosen) each =
    (each 0 (omega arith), all_before n c chosen (λ k below. each (suc k) (omega (arith, below))))

module _ (n : Night) (sizes queue : List ℕ) (order : AreInOrder n queue) (i : ℕ)
    (inside : i < length queue) (chosen left : List ℕ)
    (under : IsUnderway n sizes queue i chosen left) where
  c : ℕ
  c = slice_index queue i

  alone : before n (slice_index queue i) chosen ≡ chosen
  alone = before_all n (slice_index queue i) chosen (all_before n (slice_index queue i) chosen
      (λ k below. under.ahead k i below (omega arith) inside))

  -- It is left out, if a pool has too little.
  pub passed_over : (p : ℕ) → slice_index left p < takes_at n p (slice_index queue i)
      → IsUnderway n sizes queue (i + 1) chosen left
  passed_over p short = record {
    from = under.from;
    order = under.order;
    ahead = λ k j below past there. under.ahead k j below (omega (arith, past)) there;
    within = under.within;
    first = λ j below. elim (cases_eq j i) [
      | inl same ↦ inr (subst (λ k. IsFull n sizes (slice_index queue k)
          (before n (slice_index queue k) chosen)) (sym same)
          (subst (IsFull n sizes (slice_index queue i)) (sym alone) (record {
            pool = p;
            wanted = omega (arith, short);
            full = (let is = under.rest p in omega (arith, is, short));
          })))
      | inr less ↦ under.first j (omega (arith, below, less))
    ];
    rest = under.rest;
  }

  -- It is chosen, if each pool has enough.
  pub taken_on : (new : List ℕ)
      → ((p : ℕ) → takes_at n p (slice_index queue i) ≤ slice_index left p)
      → ((p : ℕ) → slice_index new p ≡ slice_index left p - takes_at n p (slice_index queue i))
      → IsUnderway n sizes queue (i + 1) (chosen ++ slice_index queue i ∷ []) new
  taken_on new enough are = record {
    from = All-push (Contains queue) chosen (slice_index queue i) under.from
        (i, inside, listed_at queue i inside);
    order = λ a b less below. elim (cases_lt b (length chosen)) [
      | inl old ↦
          subst (λ x. comes_before n x (slice_index (chosen ++ slice_index queue i ∷ []) b) ≡ true)
          (sym (get_or_append_left chosen (slice_index queue i ∷ []) 0 a
          (omega (arith, less, old))))
          (subst (λ x. comes_before n (slice_index chosen a) x ≡ true)
          (sym (get_or_append_left chosen (slice_index queue i ∷ []) 0 b old))
          (under.order a b less old))
      | inr past ↦
          let len = length-append chosen (slice_index queue i ∷ []) in
          let last : length chosen ≡ b = omega (arith, len, past, below) in
          let early : a < length chosen = omega (arith, less, last) in
          subst (λ x. comes_before n x (slice_index (chosen ++ slice_index queue i ∷ []) b) ≡ true)
          (sym (get_or_append_left chosen (slice_index queue i ∷ []) 0 a early))
          (subst (λ x. comes_before n (slice_index chosen a) x ≡ true)
          (sym (get_or_push chosen (slice_index queue i) 0 b last))
          (under.ahead a i early (omega arith) inside))
    ];
    ahead = λ k j below past there. elim (cases_lt k (length chosen)) [
      | inl old ↦
          subst (λ x. comes_before n x (slice_index queue j) ≡ true)
          (sym (get_or_append_left chosen (slice_index queue i ∷ []) 0 k old))
          (under.ahead k j old (omega (arith, past)) there)
      | inr new_one ↦
          let len = length-append chosen (slice_index queue i ∷ []) in
          let last : length chosen ≡ k = omega (arith, len, new_one, below) in
          subst (λ x. comes_before n x (slice_index queue j) ≡ true)
          (sym (get_or_push chosen (slice_index queue i) 0 k last))
          (order i j (omega (arith, past)) there)
    ];
    within = λ p.
        let more = taken_push n p chosen (slice_index queue i) in
        let old = under.within p in
        let is = under.rest p in
        let fits = enough p in
        omega (arith, more, old, is, fits);
    first = λ j below. elim (cases_eq j i) [
      | inl same ↦ inl (subst (λ k. Contains (chosen ++ slice_index queue i ∷ [])
          (slice_index queue k)) (sym same) (Contains-push chosen (slice_index queue i)))
      | inr less ↦ elim (under.first j (omega (arith, below, less))) [
        | inl there ↦ inl (Contains-append_left chosen (slice_index queue i ∷ [])
            (slice_index queue j) there)
        | inr full ↦ inr (subst (IsFull n sizes (slice_index queue j))
            (sym (before_push n (slice_index queue j) (slice_index queue i) chosen
            (not_before n (slice_index queue j) (slice_index queue i)
            (order j i (omega (arith, below, less)) inside)))) full)
      ]
    ];
    rest = λ p.
        let more = taken_push n p chosen (slice_index queue i) in
        let old = under.rest p in
        let now = are p in
        omega (arith, more, old, now);
  }
    where
      listed_at : (xs : List ℕ) (k : ℕ) → k < length xs
          → get_or xs k (slice_index xs k) ≡ slice_index xs k
      listed_at [] k never = absurd (omega (arith, never))
      listed_at (x ∷ xs) zero within = refl
      listed_at (x ∷ xs) (suc k) within = listed_at xs k (omega (arith, within))
