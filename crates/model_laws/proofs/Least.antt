-- The first hit of a chain is one of its hits, and none of them comes before it.
use Rattle.run_model.proofs.Common.{◌≡◌, ◌⊎◌, ◌<◌, ◌≤◌, ℕ, Bool, true, false, cond, ◌==◌, ◌||◌}
use Rattle.run_model.proofs.Common.{List, [], ◌∷◌, Option, Some, None, is_some, Less, Greater, inl}
use Rattle.run_model.proofs.Common.{inr, refl, sym, subst, ap, ◌∙◌, arith, filter_map, cons_option}
use Rattle.run_model.proofs.Common.{AllByRecursion, option_map, option_and_then, ordering_then}
use Rattle.run_model.proofs.Common.{is_lt, or-true, eqb-true, eq-eqb, true≢false, false≢true}
use Rattle.run_model.proofs.Common.{or_cases, same_Some, none-some, chain, own_hit, hit_at}
use Rattle.run_model.proofs.Common.{comes_before, least_hit, first_hit}
use Rattle.std.proofs.Common.{Ordering, Equal}
use Rattle.std.specs.Ordering.{MatchOrdering}
use Rattle.std.specs.Cmp.{ranks}
use Rattle.run_model.specs.declared.scopes.Hit.{Hit}
use Rattle.run_model.specs.declared.scopes.Scope.{Scope}
use Rattle.run_model.specs.Scopes.{first_of}
use Rattle.model_laws.specs.Hits.{is_on, has_hit}
use Rattle.model_laws.specs.Searches.{IsLeastHit}
use Rattle.model_laws.proofs.Reaches.{IsRow, chain_rows, some_hit, hit_among}

-- ---- the order of hits

-- Of three numbers each, the first that differ are greater; or all are the same.
abbrev AreAtLeast : ℕ → ℕ → ℕ → ℕ → ℕ → ℕ → Type 0
AreAtLeast e m n e' m' n' = (e' ≤ e) × (e ≡ e' → (m' ≤ m) × (m ≡ m' → n' ≤ n))

-- The first hit doesn't come before the second.
record IsNotBefore (a b : ℕ × Hit) : Type 0 where
  by : AreAtLeast a.1.event a.1.moment a.0 b.1.event b.1.moment b.0

not_less : (e m n e' m' n' : ℕ) (x y z : Ordering) → MatchOrdering x (e < e') (e ≡ e') (e' < e)
    → MatchOrdering y (m < m') (m ≡ m') (m' < m) → MatchOrdering z (n < n') (n ≡ n') (n' < n)
    → is_lt (ordering_then x (ordering_then y z)) ≡ false → AreAtLeast e m n e' m' n'
not_less e m n e' m' n' Less y z p q r fails = absurd (true≢false fails)
not_less e m n e' m' n' Greater y z p q r fails = omega arith
not_less e m n e' m' n' Equal Less z p q r fails = absurd (true≢false fails)
not_less e m n e' m' n' Equal Greater z p q r fails = omega arith
not_less e m n e' m' n' Equal Equal Less p q r fails = absurd (true≢false fails)
not_less e m n e' m' n' Equal Equal Equal p q r fails = omega arith
not_less e m n e' m' n' Equal Equal Greater p q r fails = omega arith

less : (e m n e' m' n' : ℕ) (x y z : Ordering) → MatchOrdering x (e < e') (e ≡ e') (e' < e)
    → MatchOrdering y (m < m') (m ≡ m') (m' < m) → MatchOrdering z (n < n') (n ≡ n') (n' < n)
    → is_lt (ordering_then x (ordering_then y z)) ≡ true → AreAtLeast e' m' n' e m n
less e m n e' m' n' Less y z p q r holds = omega arith
less e m n e' m' n' Greater y z p q r holds = absurd (false≢true holds)
less e m n e' m' n' Equal Less z p q r holds = omega arith
less e m n e' m' n' Equal Greater z p q r holds = absurd (false≢true holds)
less e m n e' m' n' Equal Equal Less p q r holds = omega arith
less e m n e' m' n' Equal Equal Equal p q r holds = absurd (false≢true holds)
less e m n e' m' n' Equal Equal Greater p q r holds = absurd (false≢true holds)

at_least : (e m n e' m' n' : ℕ) (x y z : Ordering) → MatchOrdering x (e < e') (e ≡ e') (e' < e)
    → MatchOrdering y (m < m') (m ≡ m') (m' < m) → MatchOrdering z (n < n') (n ≡ n') (n' < n)
    → AreAtLeast e m n e' m' n' → is_lt (ordering_then x (ordering_then y z)) ≡ false
at_least e m n e' m' n' Less y z p q r so = absurd (omega arith)
at_least e m n e' m' n' Greater y z p q r so = refl
at_least e m n e' m' n' Equal Less z p q r so = absurd (omega (arith, so.1 p))
at_least e m n e' m' n' Equal Greater z p q r so = refl
at_least e m n e' m' n' Equal Equal Less p q r so = absurd (omega (arith, (so.1 p).1 q))
at_least e m n e' m' n' Equal Equal Equal p q r so = refl
at_least e m n e' m' n' Equal Equal Greater p q r so = refl

at_least_joins : (e m n e' m' n' e'' m'' n'' : ℕ) → AreAtLeast e m n e' m' n'
    → AreAtLeast e' m' n' e'' m'' n'' → AreAtLeast e m n e'' m'' n''
at_least_joins e m n e' m' n' e'' m'' n'' p q = (
  omega arith,
  λ same_event.
      let first : e ≡ e' = omega (arith, p.0, q.0) in
      let second : e' ≡ e'' = omega (arith, p.0, q.0) in
      let moments = p.1 first in
      let moments' = q.1 second in (
        omega (arith, moments.0, moments'.0),
        λ same_moment.
            let third : m ≡ m' = omega (arith, moments.0, moments'.0) in
            let fourth : m' ≡ m'' = omega (arith, moments.0, moments'.0) in
            omega (arith, moments.1 third, moments'.1 fourth),
      ),
)

not_before : (a b : ℕ × Hit) → comes_before a b ≡ false → IsNotBefore a b
not_before a b fails = record {
  by = not_less a.1.event a.1.moment a.0 b.1.event b.1.moment b.0 _ _ _ (ranks a.1.event b.1.event)
      (ranks a.1.moment b.1.moment) (ranks a.0 b.0) fails;
}

before_other : (a b : ℕ × Hit) → comes_before a b ≡ true → IsNotBefore b a
before_other a b so = record {
  by = less a.1.event a.1.moment a.0 b.1.event b.1.moment b.0 _ _ _ (ranks a.1.event b.1.event)
      (ranks a.1.moment b.1.moment) (ranks a.0 b.0) so;
}

comes_not_before : (a b : ℕ × Hit) → IsNotBefore a b → comes_before a b ≡ false
comes_not_before a b so =
    at_least a.1.event a.1.moment a.0 b.1.event b.1.moment b.0 _ _ _ (ranks a.1.event b.1.event)
    (ranks a.1.moment b.1.moment) (ranks a.0 b.0) so.by

not_before_joins : (a b c : ℕ × Hit) → IsNotBefore a b → IsNotBefore b c → IsNotBefore a c
not_before_joins a b c first second =
    record {
      by = at_least_joins a.1.event a.1.moment a.0 b.1.event b.1.moment b.0 c.1.event c.1.moment c.0
          first.by second.by;
    }

-- ---- the hits of these rows

-- This is a hit of these rows, and none of them comes before it.
record IsLeastOf (all : List Scope) (rows : List (ℕ × Scope)) (a : ℕ × Hit) : Type 0 where
  on : is_on a.0 rows ≡ true
  own : own_hit all a.0 ≡ Some a.1
  least : (n : ℕ) (hit : Hit) → is_on n rows ≡ true → own_hit all n ≡ Some hit
      → IsNotBefore (n, hit) a

-- A scope among the rows is the first one, or is among the others.
first_or_other : (n : ℕ) (r : ℕ × Scope) (rows : List (ℕ × Scope)) → is_on n (r ∷ rows) ≡ true
    → (r.0 ≡ n) ⊎ (is_on n rows ≡ true)
first_or_other n r rows on =
    elim (or_cases (r.0 == n) (is_on n rows) on)
    [ inl same ↦ inl (eqb-true r.0 n same) | inr other ↦ inr other ]

is_first_on : (r : ℕ × Scope) (rows : List (ℕ × Scope)) → is_on r.0 (r ∷ rows) ≡ true
is_first_on r rows = ap (λ b. b || is_on r.0 rows) (eq-eqb r.0 r.0 refl)

-- A first row that was not hit, before others.
least_after : (all : List Scope) (r : ℕ × Scope) (rows : List (ℕ × Scope)) (a : ℕ × Hit)
    → own_hit all r.0 ≡ None → IsLeastOf all rows a → IsLeastOf all (r ∷ rows) a
least_after all r rows a none of = record {
  on = ap (λ b. (r.0 == a.0) || b) of.on ∙ or-true (r.0 == a.0);
  own = of.own;
  least = λ n hit on own. elim (first_or_other n r rows on) [
    | inl here ↦ absurd (none-some hit (sym none ∙ ap (own_hit all) here ∙ own))
    | inr other ↦ of.least n hit other own
  ];
}

same_hit : (all : List Scope) (n m : ℕ) (a hit : Hit) → own_hit all n ≡ Some a
    → own_hit all m ≡ Some hit → n ≡ m → IsNotBefore (m, hit) (n, a)
same_hit all n m a hit own own' same =
    let e : a ≡ hit = same_Some a hit (sym own ∙ ap (own_hit all) same ∙ own') in
    record { by = omega (arith, ap (λ h. h.event) e, ap (λ h. h.moment) e) }

-- A first row that was hit, before others that were not.
least_alone : (all : List Scope) (r : ℕ × Scope) (rows : List (ℕ × Scope)) (own : Hit)
    → own_hit all r.0 ≡ Some own
    → ((n : ℕ) (hit : Hit) → is_on n rows ≡ true → own_hit all n ≡ Some hit → ⊥)
    → IsLeastOf all (r ∷ rows) (r.0, own)
least_alone all r rows own at others = record {
  on = is_first_on r rows;
  own = at;
  least = λ n hit on has. elim (first_or_other n r rows on) [
    | inl here ↦ same_hit all r.0 n own hit at has here
    | inr other ↦ absurd (others n hit other has)
  ];
}

-- A first row that was hit, before others of which this is the least.
least_of_both : (all : List Scope) (r : ℕ × Scope) (rows : List (ℕ × Scope)) (own : Hit)
    (b : ℕ × Hit)
    → own_hit all r.0 ≡ Some own → IsLeastOf all rows b
    → IsLeastOf all (r ∷ rows) (first_of (Some b) (r.0, own))
least_of_both all r rows own b at of = by_order (comes_before (r.0, own) b) refl
  where
    by_order : (t : Bool) → comes_before (r.0, own) b ≡ t
        → IsLeastOf all (r ∷ rows) (cond t (r.0, own) b)
    by_order true before = record {
      on = is_first_on r rows;
      own = at;
      least = λ n hit on has. elim (first_or_other n r rows on) [
        | inl here ↦ same_hit all r.0 n own hit at has here
        | inr other ↦ not_before_joins (n, hit) b (r.0, own) (of.least n hit other has)
            (before_other (r.0, own) b before)
      ];
    }
    by_order false behind = record {
      on = ap (λ x. (r.0 == b.0) || x) of.on ∙ or-true (r.0 == b.0);
      own = of.own;
      least = λ n hit on has. elim (first_or_other n r rows on) [
        | inl here ↦ not_before_joins (n, hit) (r.0, own) b
            (same_hit all r.0 n own hit at has here) (not_before (r.0, own) b behind)
        | inr other ↦ of.least n hit other has
      ];
    }

-- If there is no first hit, none of the rows was hit.
none_hit : (all : List Scope) (rows : List (ℕ × Scope)) → AllByRecursion (IsRow all) rows
    → least_hit (filter_map hit_at rows) ≡ None → (n : ℕ) (hit : Hit) → is_on n rows ≡ true
    → own_hit all n ≡ Some hit → ⊥
none_hit all rows are none n hit on own =
    let some : has_hit rows ≡ true = hit_among all n rows are (ap is_some own) on in
    true≢false (sym some ∙ sym (some_hit rows) ∙ ap is_some none)

least_found : (all : List Scope) (rows : List (ℕ × Scope)) → AllByRecursion (IsRow all) rows
    → (a : ℕ × Hit) → least_hit (filter_map hit_at rows) ≡ Some a → IsLeastOf all rows a
least_found all [] are a found = absurd (none-some a found)
least_found all (r ∷ rows) are a found =
    by_row r.1.hit (ap (option_and_then (λ row. row.hit)) are.0) found (least_found all rows are.1)
  where
    by_rest : (own : Hit) → own_hit all r.0 ≡ Some own → (rest : Option (ℕ × Hit))
        → least_hit (filter_map hit_at rows) ≡ rest
        → ((b : ℕ × Hit) → rest ≡ Some b → IsLeastOf all rows b)
        → IsLeastOf all (r ∷ rows) (first_of rest (r.0, own))
    by_rest own at None rest least = least_alone all r rows own at (none_hit all rows are.1 rest)
    by_rest own at (Some b) rest least = least_of_both all r rows own b at (least b refl)

    by_row : (own : Option Hit) → own_hit all r.0 ≡ own
        → least_hit (cons_option (option_map (λ hit. (r.0, hit)) own) (filter_map hit_at rows))
        ≡ Some a
        → ((b : ℕ × Hit) → least_hit (filter_map hit_at rows) ≡ Some b → IsLeastOf all rows b)
        → IsLeastOf all (r ∷ rows) a
    by_row None at some least = least_after all r rows a at (least a some)
    by_row (Some own) at some least =
        subst (IsLeastOf all (r ∷ rows)) (same_Some _ a some)
        (by_rest own at (least_hit (filter_map hit_at rows)) refl least)

pub first_hit_least : (rows : List Scope) (s : ℕ) (a : ℕ × Hit) → first_hit rows s ≡ Some a
    → IsLeastHit rows s a
first_hit_least rows s a found =
    let of = least_found rows (chain rows s) (chain_rows rows s) a found in
    record {
      on = of.on;
      own = of.own;
      least = λ n hit on own. comes_not_before (n, hit) a (of.least n hit on own);
    }
