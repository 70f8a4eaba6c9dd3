-- The least moment at which something comes.
use Rattle.std.proofs.Common.{◌≡◌, ◌<◌, ◌≤◌, ◌+◌, ◌⊎◌, ◌∙◌, ℕ, zero, suc, Bool, true, false}
use Rattle.std.proofs.Common.{List, Option, Some, None, length, slice_get, cond, inl, inr, min}
use Rattle.std.proofs.Common.{nat_le, nat_lt, ap, refl, subst, sym, arith}
use Rattle.std.proofs.Math.Numerals.{add-one}
use Rattle.run_model.proofs.RowLemmas.{row_there}
use Rattle.std.proofs.lemmas.Bool.Decides.{nat_tests}
use Rattle.std.proofs.lemmas.Option.{slice_get_within}
use Rattle.std.specs.Option.{option_and_then}
use Rattle.run_model.specs.Scopes.{deadline_of}
use Rattle.run_model.specs.State.{State}
use Rattle.drive_nights.specs.Deadlines.{Comes, Ends, EndsAll, EndsGroup, IsLeastOf, IsNextMoment}
use Rattle.drive_nights.specs.Deadlines.{end_of, sooner}
use Rattle.drive_nights.specs.Nights.{base_of}
use Rattle.drive_nights.specs.Rooms.{last_scope}

-- ---- the least of moments

-- Some moments and perhaps one more.
pub least_more : (among all : ℕ → Type 0) (x o : Option ℕ) → IsLeastOf among x
    → ((m : ℕ) → all m → among m ⊎ (o ≡ Some m)) → ((m : ℕ) → among m → all m)
    → ((m : ℕ) → o ≡ Some m → all m) → IsLeastOf all (sooner x o)
least_more among all None None least either old new =
    λ m is. elim (either m is) [ inl before ↦ least m before | inr here ↦ cc ]
least_more among all None (Some b) least either old new = (
  new b refl,
  λ m is. elim (either m is) [ inl before ↦ absurd (least m before) | inr here ↦ at m here ],
)
  where
    at : (m : ℕ) → Some b ≡ Some m → b ≤ m
    at m here = let same : b ≡ m = cc in omega arith
least_more among all (Some a) None least either old new = (
  old a least.0,
  λ m is. elim (either m is) [ inl before ↦ least.1 m before | inr here ↦ absurd (cc) ],
)
least_more among all (Some a) (Some b) least either old new = (one, all_later)
  where
    one : all (min a b)
    one = go (nat_le a b) refl
      where
        go : (le : Bool) → nat_le a b ≡ le → all (min a b)
        go true le =
            let less : a ≤ b = grind (arith, nat_tests, le) in
            let is : a ≡ min a b = omega arith in
            subst all is (old a least.0)
        go false le =
            let less : b < a = grind (arith, nat_tests, le) in
            let is : b ≡ min a b = omega arith in
            subst all is (new b refl)

    all_later : (m : ℕ) → all m → min a b ≤ m
    all_later m is = elim (either m is) [
      | inl before ↦ let less : a ≤ m = least.1 m before in omega arith
      | inr here ↦ let same : b ≡ m = cc in omega arith
    ]

-- ---- a scope

-- A scope ends at this moment.
pub ends : (p : State) (s m : ℕ) → end_of p s ≡ Some m → Ends p s m
ends p s m is = go (deadline_of p.tree.scopes s) refl is
  where
    go : (o : Option ℕ) → deadline_of p.tree.scopes s ≡ o
        → option_and_then (λ k. cond (nat_lt p.tree.clock k) (Some k) None) o ≡ Some m → Ends p s m
    go None here found = absurd (cc)
    go (Some k) here found = test (nat_lt p.tree.clock k) refl found
      where
        test : (b : Bool) → nat_lt p.tree.clock k ≡ b → cond b (Some k) None ≡ Some m → Ends p s m
        test false ahead it = absurd (cc)
        test true ahead it =
            let same : k ≡ m = cc in
            let less : p.tree.clock < k = grind (arith, nat_tests, ahead) in
            record {
              deadline = here ∙ ap Some same;
              ahead = omega arith;
            }

-- A scope that ends at a moment ends then.
pub end_is : (p : State) (s m : ℕ) → Ends p s m → end_of p s ≡ Some m
end_is p s m it =
    let less : p.tree.clock < m = it.ahead in
    let ahead : nat_lt p.tree.clock m ≡ true = grind (arith, nat_tests, less) in
    ap (option_and_then (λ k. cond (nat_lt p.tree.clock k) (Some k) None)) it.deadline
    ∙ ap (λ b. cond b (Some m) None) ahead

-- ---- the moments of a night

-- Something comes at this moment, if only the groups below this number count.
abbrev pub ComesBelow : ℕ → State → (n : ℕ) → List (List ℕ) → (retry : Option ℕ) → ℕ → Type 0
ComesBelow most p n groups retry moment =
    (retry ≡ Some moment) ⊎ EndsAll p n moment
    ⊎ ((it : EndsGroup p n groups moment) × (it.number < most))

-- A scope that there may be ends at this moment.
record EndsOf (p : State) (o : Option ℕ) (m : ℕ) : Type 0 where
  pub scope : ℕ
  pub is : o ≡ Some scope
  pub ends : Ends p scope m

ends_of : (p : State) (o : Option ℕ) (m : ℕ) → option_and_then (end_of p) o ≡ Some m → EndsOf p o m
ends_of p None m is = absurd (cc)
ends_of p (Some s) m is = record { scope = s; is = refl; ends = ends p s m is }

of_ends : (p : State) (o : Option ℕ) (s m : ℕ) → o ≡ Some s → Ends p s m
    → option_and_then (end_of p) o ≡ Some m
of_ends p o s m is it = ap (option_and_then (end_of p)) is ∙ end_is p s m it

-- The retry alone.
least_alone : (retry : Option ℕ) → IsLeastOf (λ m. retry ≡ Some m) retry
least_alone None = λ m is. cc
least_alone (Some one) = (refl, λ m is. let same : one ≡ m = cc in omega arith)

-- The retry and the deadline of all groups.
pub comes_first : (p : State) (n : ℕ) (groups : List (List ℕ)) (retry base r : Option ℕ)
    → base ≡ base_of p n → r ≡ sooner retry (option_and_then (end_of p) base)
    → IsLeastOf (ComesBelow 0 p n groups retry) r
comes_first p n groups retry base r of is =
    subst (IsLeastOf (ComesBelow 0 p n groups retry)) (sym is)
    (least_more (λ m. retry ≡ Some m) (ComesBelow 0 p n groups retry) retry
    (option_and_then (end_of p) base) (least_alone retry) either (λ m it. inl it) new)
  where
    either : (m : ℕ) → ComesBelow 0 p n groups retry m
        → (retry ≡ Some m) ⊎ (option_and_then (end_of p) base ≡ Some m)
    either m (inl it) = inl it
    either m (inr (inl all)) = inr (of_ends p base all.base m (of ∙ all.is) all.ends)
    either m (inr (inr group)) = let less : group.0.number < 0 = group.1 in absurd (omega arith)

    new : (m : ℕ) → option_and_then (end_of p) base ≡ Some m → ComesBelow 0 p n groups retry m
    new m it =
        let found : EndsOf p base m = ends_of p base m it in
        inr (inl (record { base = found.scope; is = sym of ∙ found.is; ends = found.ends }))

-- One more group.
pub comes_more : (p : State) (n : ℕ) (groups : List (List ℕ)) (retry : Option ℕ) (k : ℕ)
    (group : List ℕ) (scope x r : Option ℕ) → slice_get groups k ≡ Some group
    → scope ≡ last_scope p n group → r ≡ sooner x (option_and_then (end_of p) scope)
    → IsLeastOf (ComesBelow k p n groups retry) x
    → IsLeastOf (ComesBelow (k + 1) p n groups retry) r
comes_more p n groups retry k group scope x r at of is least =
    subst (IsLeastOf (ComesBelow (k + 1) p n groups retry)) (sym is)
    (least_more (ComesBelow k p n groups retry) (ComesBelow (k + 1) p n groups retry) x
    (option_and_then (end_of p) scope) least either old new)
  where
    either : (m : ℕ) → ComesBelow (k + 1) p n groups retry m
        → ComesBelow k p n groups retry m ⊎ (option_and_then (end_of p) scope ≡ Some m)
    either m (inl it) = inl (inl it)
    either m (inr (inl all)) = inl (inr (inl all))
    either m (inr (inr it)) = by (nat_lt it.0.number k) refl
      where
        by : (b : Bool) → nat_lt it.0.number k ≡ b
            → ComesBelow k p n groups retry m ⊎ (option_and_then (end_of p) scope ≡ Some m)
        by true less =
            let below : it.0.number < k = grind (arith, nat_tests, less) in
            inl (inr (inr (it.0, below)))
        by false less =
            let above : k ≤ it.0.number = grind (arith, nat_tests, less) in
            let below : it.0.number < k + 1 = it.1 in
            let same : it.0.number ≡ k = omega arith in
            let one : Some it.0.group ≡ Some group =
            sym it.0.is ∙ ap (slice_get groups) same ∙ at in
            let named : it.0.group ≡ group = cc in
            inr (of_ends p scope it.0.scope m
            (of ∙ ap (last_scope p n) (sym named) ∙ it.0.last) it.0.ends)

    old : (m : ℕ) → ComesBelow k p n groups retry m → ComesBelow (k + 1) p n groups retry m
    old m (inl it) = inl it
    old m (inr (inl all)) = inr (inl all)
    old m (inr (inr it)) = inr (inr (it.0, less it.1))
      where
        less : it.0.number < k → it.0.number < k + 1
        less below = omega arith

    new : (m : ℕ) → option_and_then (end_of p) scope ≡ Some m
        → ComesBelow (k + 1) p n groups retry m
    new m it =
        let found : EndsOf p scope m = ends_of p scope m it in
        inr (inr (
          record {
            number = k;
            group = group;
            is = at;
            scope = found.scope;
            last = sym of ∙ found.is;
            ends = found.ends;
          },
          omega arith,
        ))

-- All groups.
pub comes_all : (p : State) (n : ℕ) (groups : List (List ℕ)) (retry : Option ℕ) (most : ℕ)
    (x : Option ℕ) → most ≡ length groups → IsLeastOf (ComesBelow most p n groups retry) x
    → IsNextMoment p n groups retry x
comes_all p n groups retry most x whole least = by x least
  where
    below : (m : ℕ) → Comes p n groups retry m → ComesBelow most p n groups retry m
    below m (inl it) = inl it
    below m (inr (inl all)) = inr (inl all)
    below m (inr (inr it)) =
        let within : it.number < length groups =
        slice_get_within groups it.number it.group it.is in
        inr (inr (it, omega arith))

    above : (m : ℕ) → ComesBelow most p n groups retry m → Comes p n groups retry m
    above m (inl it) = inl it
    above m (inr (inl all)) = inr (inl all)
    above m (inr (inr it)) = inr (inr it.0)

    by : (o : Option ℕ) → IsLeastOf (ComesBelow most p n groups retry) o
        → IsNextMoment p n groups retry o
    by None none = λ m it. none m (below m it)
    by (Some one) is = (above one is.0, λ m it. is.1 m (below m it))

-- ---- worked examples

-- The least moment is computed from the groups, one after another.
abbrev pub next_below : State → (n : ℕ) → List (List ℕ) → (retry : Option ℕ) → ℕ → Option ℕ
next_below p n groups retry zero = sooner retry (option_and_then (end_of p) (base_of p n))
next_below p n groups retry (suc k) =
    sooner (next_below p n groups retry k)
    (option_and_then (λ group. option_and_then (end_of p) (last_scope p n group))
    (slice_get groups k))

computes_below : (p : State) (n : ℕ) (groups : List (List ℕ)) (retry : Option ℕ) (k : ℕ)
    → k ≤ length groups
    → IsLeastOf (ComesBelow k p n groups retry) (next_below p n groups retry k)
computes_below p n groups retry zero within =
    comes_first p n groups retry (base_of p n) (next_below p n groups retry zero) refl refl
computes_below p n groups retry (suc k) within =
    let there = row_there groups k (omega arith) in
    let next : Option ℕ = next_below p n groups retry (suc k) in
    subst (λ (m : ℕ). IsLeastOf (ComesBelow m p n groups retry) next)
    (add-one k)
    (comes_more p n groups retry k there.0 (last_scope p n there.0)
    (next_below p n groups retry k) (next_below p n groups retry (suc k)) there.1 refl
    (ap (λ (o : Option (List ℕ)). sooner (next_below p n groups retry k)
    (option_and_then (λ group. option_and_then (end_of p) (last_scope p n group)) o)) there.1)
    (computes_below p n groups retry k (omega arith)))

pub computes : (p : State) (n : ℕ) (groups : List (List ℕ)) (retry : Option ℕ)
    → IsNextMoment p n groups retry (next_below p n groups retry (length groups))
computes p n groups retry =
    comes_all p n groups retry (length groups) (next_below p n groups retry (length groups)) refl
    (computes_below p n groups retry (length groups) (omega arith))
