-- A hit of the same event as others, and equal to them: scopes that were done keep their endings.
use Rattle.run_model.proofs.Common.{◌≡◌, ◌⊎◌, ◌<◌, ℕ, Bool, true, false, cond, List, Option, Some}
use Rattle.run_model.proofs.Common.{None, slice_get, inl, inr, refl, sym, ap, ◌∙◌, arith, ◌≢◌}
use Rattle.run_model.proofs.Common.{option_map, option_and_then, IfSome, option_or, cases_eq}
use Rattle.run_model.proofs.Common.{none-some, at_row, with_hit, comes_before, first_hit, ending}
use Rattle.run_model.proofs.Common.{AreOrdered, slice_get-at_row_same, slice_get-at_row_other}
use Rattle.run_model.specs.declared.scopes.Hit.{Hit}
use Rattle.run_model.specs.declared.scopes.Scope.{Scope}
use Rattle.run_model.specs.Scopes.{first_of}
use Rattle.model_laws.specs.Searches.{joined}
use Rattle.model_laws.specs.Endings.{AreLevel, EndingsStay}
use Rattle.model_laws.proofs.Follows.{IsOf, cancelled}
use Rattle.model_laws.proofs.WellFormed.{ordered_follow}
use Rattle.model_laws.proofs.Relates.{earlier_comes_before, later_comes_after, IsKept, RowRelates}
use Rattle.model_laws.proofs.Relates.{RowsRelate, first_hits_relate}

-- ---- hits that are level with one

abbrev IsLevel : Hit → Hit → Type 0
IsLevel hit h = (h.event < hit.event) ⊎ (h ≡ hit)

-- The same hit of an earlier event, or both this very hit, perhaps of two scopes.
abbrev AreAlike : Hit → ℕ × Hit → ℕ × Hit → Type 0
AreAlike hit a b = ((b ≡ a) × (a.1.event < hit.event)) ⊎ ((a.1 ≡ hit) × (b.1 ≡ hit))

same_alike : (hit : Hit) (a b : ℕ × Hit) → b ≡ a → IsLevel hit a.1 → AreAlike hit a b
same_alike hit a b same (inl earlier) = inl (same, earlier)
same_alike hit a b same (inr is) = inr (is, ap (λ x. x.1) same ∙ is)

-- The first of two level hits is level.
first_level : (hit : Hit) (a b : ℕ × Hit) → IsLevel hit a.1 → IsLevel hit b.1
    → IsLevel hit (first_of (Some a) b).1
first_level hit a b level level' = by_order (comes_before b a)
  where
    by_order : (t : Bool) → IsLevel hit (cond t b a).1
    by_order true = level'
    by_order false = level

-- The first of two that are this very hit is this hit.
first_is : (hit : Hit) (a b : ℕ × Hit) → a.1 ≡ hit → b.1 ≡ hit → (first_of (Some a) b).1 ≡ hit
first_is hit a b is is' = by_order (comes_before b a)
  where
    by_order : (t : Bool) → (cond t b a).1 ≡ hit
    by_order true = is'
    by_order false = is

-- An earlier one is the first, whichever of two it is.
earlier_first : (hit : Hit) (a b : ℕ × Hit) → a.1 ≡ hit → b.1.event < hit.event
    → first_of (Some a) b ≡ b
earlier_first hit a b is less =
    let event : a.1.event ≡ hit.event = ap (λ h. h.event) is in
    ap (λ t. cond t b a) (earlier_comes_before b a (omega (arith, less, event)))

first_stays : (hit : Hit) (a b : ℕ × Hit) → a.1.event < hit.event → b.1 ≡ hit
    → first_of (Some a) b ≡ a
first_stays hit a b less is =
    let event : b.1.event ≡ hit.event = ap (λ h. h.event) is in
    ap (λ t. cond t b a) (later_comes_after b a (omega (arith, less, event)))

-- Beside a level hit, two that are alike stay alike.
alike_beside : (hit : Hit) (a b c : ℕ × Hit) → AreAlike hit a b → IsLevel hit c.1
    → AreAlike hit (first_of (Some a) c) (first_of (Some b) c)
alike_beside hit a b c (inl same) level =
    same_alike hit (first_of (Some a) c) (first_of (Some b) c)
    (ap (λ x. first_of (Some x) c) same.0) (first_level hit a c (inl same.1) level)
alike_beside hit a b c (inr are) (inr is) =
    inr (first_is hit a c are.0 is, first_is hit b c are.1 is)
alike_beside hit a b c (inr are) (inl less) =
    same_alike hit (first_of (Some a) c) (first_of (Some b) c)
    (earlier_first hit b c are.1 less ∙ sym (earlier_first hit a c are.0 less))
    (first_level hit a c (inr are.0) (inl less))

-- ---- what this hit leaves of others

-- A level hit stays, and where there was none there is this one at most.
abbrev OwnLevel : Hit → Option Hit → Option Hit → Type 0
OwnLevel hit None new = IfSome new (λ h. h ≡ hit)
OwnLevel hit (Some h) new = (new ≡ Some h) × IsLevel hit h

abbrev FirstLevel : Hit → Option (ℕ × Hit) → Option (ℕ × Hit) → Type 0
FirstLevel hit None new = IfSome new (λ b. b.1 ≡ hit)
FirstLevel hit (Some a) new = (b : ℕ × Hit) × (new ≡ Some b) × AreAlike hit a b

-- The first hit from above, next to a hit of the scope's own that is added.
comes_beside : (hit : Hit) (a b c : ℕ × Hit) → AreAlike hit a b → c.1 ≡ hit
    → AreAlike hit a (first_of (Some b) c)
comes_beside hit a b c (inl same) is =
    let less : b.1.event < hit.event = omega (arith, ap (λ x. x.1.event) same.0, same.1) in
    inl (first_stays hit b c less is ∙ same.0, same.1)
comes_beside hit a b c (inr are) is = inr (are.0, first_is hit b c are.1 is)

-- The first hit from above, next to a hit of the scope's own that was there.
own_beside : (hit : Hit) (b c : ℕ × Hit) → b.1 ≡ hit → IsLevel hit c.1
    → AreAlike hit c (first_of (Some b) c)
own_beside hit b c is (inl less) = inl (earlier_first hit b c is less, less)
own_beside hit b c is (inr are) = inr (are, first_is hit b c is are)

level_joins : (hit : Hit) (s : ℕ) (up up' : Option (ℕ × Hit)) (own own' : Option Hit)
    → FirstLevel hit up up' → OwnLevel hit own own'
    → FirstLevel hit (joined up s own) (joined up' s own')
level_joins hit s (Some a) up' (Some h) own' high low = (
  first_of (Some high.0) (s, h),
  ap (λ x. joined x s own') high.1 ∙ ap (joined (Some high.0) s) low.0,
  alike_beside hit a high.0 (s, h) high.2 low.1,
)
level_joins hit s (Some a) up' None None high low = high
level_joins hit s (Some a) up' None (Some h) high low = (
  first_of (Some high.0) (s, h),
  ap (λ x. joined x s (Some h)) high.1,
  comes_beside hit a high.0 (s, h) high.2 low,
)
level_joins hit s None None (Some h) own' high low =
    ((s, h), ap (joined None s) low.0, same_alike hit (s, h) (s, h) refl low.1)
level_joins hit s None (Some b) (Some h) own' high low =
    (first_of (Some b) (s, h), ap (joined (Some b) s) low.0, own_beside hit b (s, h) high low.1)
level_joins hit s None up' None None high low = high
level_joins hit s None None None (Some h) high low = low
level_joins hit s None (Some b) None (Some h) high low = first_is hit b (s, h) high low

level_kept : (hit : Hit) → IsKept (FirstLevel hit) (OwnLevel hit)
level_kept hit = record { none = tt; join = level_joins hit }

-- ---- rows

own_level : (hit : Hit) (own : Option Hit) → ((h : Hit) → own ≡ Some h → IsLevel hit h)
    → OwnLevel hit own (option_or own (Some hit))
own_level hit None level = refl
own_level hit (Some h) level = (refl, level h refl)

level_same : (hit : Hit) (own : Option Hit) → ((h : Hit) → own ≡ Some h → IsLevel hit h)
    → OwnLevel hit own own
level_same hit None level = tt
level_same hit (Some h) level = (refl, level h refl)

-- The row of each number after the hit.
rows_level : (hit : Hit) (s : ℕ) (rows : List Scope) → AreLevel rows hit
    → RowsRelate (OwnLevel hit) rows (at_row (with_hit hit) s rows)
rows_level hit s rows level n a at = by_place (cases_eq n s)
  where
    own : (h : Hit) → a.hit ≡ Some h → IsLevel hit h
    own h has = level n h (ap (option_and_then (λ row. row.hit)) at ∙ has)

    by_place : (n ≡ s) ⊎ (n ≢ s)
        → (b : Scope) × (slice_get (at_row (with_hit hit) s rows) n ≡ Some b)
        × RowRelates (OwnLevel hit) a b
    by_place (inl here) = (
      with_hit hit a,
      ap (slice_get (at_row (with_hit hit) s rows)) here
          ∙ slice_get-at_row_same (with_hit hit) s rows
          ∙ ap (option_map (with_hit hit)) (ap (slice_get rows) (sym here) ∙ at),
      record { kind = refl; parent = refl; hit = own_level hit a.hit own },
    )
    by_place (inr other) = (
      a,
      slice_get-at_row_other (with_hit hit) s n rows other ∙ at,
      record { kind = refl; parent = refl; hit = level_same hit a.hit own },
    )

pub ordered_hit : (hit : Hit) (s : ℕ) (rows : List Scope) → AreOrdered rows
    → AreOrdered (at_row (with_hit hit) s rows)
ordered_hit hit s rows ordered =
    let of : IsOf hit.event hit.moment hit = record { event = refl; moment = omega arith } in
    ordered_follow hit.event hit.moment rows (at_row (with_hit hit) s rows)
    (cancelled hit.event hit.moment s hit rows of) ordered

-- A hit that is level with the earlier ones changes no ending.
pub endings_level : (hit : Hit) (s : ℕ) (rows : List Scope) → AreOrdered rows → AreLevel rows hit
    → EndingsStay rows (at_row (with_hit hit) s rows)
endings_level hit s rows ordered level = stays
  where
    same : (a b : ℕ × Hit) → AreAlike hit a b → b.1 ≡ a.1
    same a b (inl alike) = ap (λ x. x.1) alike.0
    same a b (inr are) = are.1 ∙ sym are.0

    again : (n : ℕ) (a : ℕ × Hit) → first_hit rows n ≡ Some a
        → ending (at_row (with_hit hit) s rows) n ≡ Some a.1
    again n a done =
        let b =
        first_hits_relate (FirstLevel hit) (OwnLevel hit) (level_kept hit) rows
        (at_row (with_hit hit) s rows) ordered (ordered_hit hit s rows ordered)
        (rows_level hit s rows level) n a done in
        ap (option_map (λ x. x.1)) b.1 ∙ ap Some (same a b.0 b.2)

    by_first : (n : ℕ) (first : Option (ℕ × Hit)) → first_hit rows n ≡ first → (h : Hit)
        → option_map (λ x. x.1) first ≡ Some h → ending (at_row (with_hit hit) s rows) n ≡ Some h
    by_first n None e h done = absurd (none-some h done)
    by_first n (Some a) e h done = again n a e ∙ done

    stays : (n : ℕ) (h : Hit) → ending rows n ≡ Some h
        → ending (at_row (with_hit hit) s rows) n ≡ Some h
    stays n h done = by_first n (first_hit rows n) refl h done
