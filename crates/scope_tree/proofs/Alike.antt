-- A hit next to equal ones of the same event: what ended a scope stays, since equal hits end it in
-- the same way.
use Rattle.run_model.proofs.Common.{◌≡◌, ◌⊎◌, ◌<◌, ℕ, Bool, true, false, cond, List, Option, Some}
use Rattle.run_model.proofs.Common.{None, slice_get, Less, Greater, inl, inr, refl, sym, subst, ap}
use Rattle.run_model.proofs.Common.{◌∙◌, arith, option_map, option_and_then, IfSome, option_or}
use Rattle.run_model.proofs.Common.{ordering_then, is_lt, cases_lt, cases_eq, false≢true}
use Rattle.run_model.proofs.Common.{none-some, option_and_then_some, reason_text, at_row, own_hit}
use Rattle.run_model.proofs.Common.{comes_before, first_hit, ending, is_group_kind, AreOrdered}
use Rattle.run_model.proofs.Common.{has_kind, can_be_hit, TreeState, with_hit, new_hit}
use Rattle.run_model.proofs.Common.{slice_get-at_row_same, slice_get-at_row_other}
use Rattle.std.proofs.Common.{Equal}
use Rattle.std.specs.Option.{IsSome, unwrap_or}
use Rattle.std.specs.Ordering.{nat_cmp}
use Rattle.std.specs.Cmp.{nat_cmp_is}
use Rattle.run_model.specs.declared.scopes.Hit.{Hit}
use Rattle.run_model.specs.declared.scopes.Reason.TheVariants.{Canceled}
use Rattle.run_model.specs.declared.scopes.Scope.{Scope}
use Rattle.model_laws.specs.Endings.{EndingsStay}
use Rattle.model_laws.specs.Searches.{joined}
use Rattle.model_laws.proofs.Relates.{IsKept, RowsRelate, first_hits_relate}
use Rattle.model_laws.proofs.Stays.{earlier_comes_before, later_comes_after}
use Rattle.scope_tree.specs.Checks.{AreEarlierOrAlike}
use Rattle.scope_tree.specs.Marks.{Struck}
use Rattle.scope_tree.specs.Sound.{ArePastHits, IsPastHit}
use Rattle.scope_tree.proofs.Passing.{kind_passed}
use Rattle.model_laws.proofs.Levels.{ordered_hit}
use Rattle.model_laws.proofs.Reaches.{can_be_hit_joins}

-- ---- two hits

-- Hit h comes before this one, at whatever scopes they stand.
record ComesBefore (h hit : Hit) : Type 0 where
  before : (s t : ℕ) → comes_before (s, h) (t, hit) ≡ true
  behind : (s t : ℕ) → comes_before (t, hit) (s, h) ≡ false

earlier_event : (h hit : Hit) → h.event < hit.event → ComesBefore h hit
earlier_event h hit less = record {
  before = λ s t. earlier_comes_before (s, h) (t, hit) less;
  behind = λ s t. later_comes_after (t, hit) (s, h) less;
}

-- Of one event, the moments decide.
by_moment : (e m n s t : ℕ)
    → is_lt (ordering_then (nat_cmp e e) (ordering_then (nat_cmp m n) (nat_cmp s t)))
    ≡ is_lt (ordering_then (nat_cmp m n) (nat_cmp s t))
by_moment e m n s t =
    ap (λ o. is_lt (ordering_then o (ordering_then (nat_cmp m n) (nat_cmp s t))))
    (sym (nat_cmp_is e e Equal refl))

earlier_moment : (h hit : Hit) → h.event ≡ hit.event → h.moment < hit.moment → ComesBefore h hit
earlier_moment h hit same less = record {
  before = λ s t.
      ap (λ e. comes_before (s, record h { event = e }) (t, hit)) same
      ∙ by_moment hit.event h.moment hit.moment s t
      ∙ ap (λ o. is_lt (ordering_then o (nat_cmp s t)))
      (sym (nat_cmp_is h.moment hit.moment Less less));
  behind = λ s t.
      ap (λ e. comes_before (t, hit) (s, record h { event = e })) same
      ∙ by_moment hit.event hit.moment h.moment t s
      ∙ ap (λ o. is_lt (ordering_then o (nat_cmp t s)))
      (sym (nat_cmp_is hit.moment h.moment Greater less));
}

-- It comes before, or is the same.
abbrev IsLevel : Hit → Hit → Type 0
IsLevel hit h = ComesBefore h hit ⊎ (h ≡ hit)

same_hit : (e m : ℕ) (cause : List ℕ) (h : Hit) → h.event ≡ e → h.moment ≡ m
    → h.reason ≡ Canceled → h.cause ≡ cause
    → h ≡ record { event = e; moment = m; reason = Canceled; cause = cause }
same_hit e m cause h event moment reason text =
    ap (λ x. record h { event = x }) event
    ∙ ap (λ x. record h { event = e; moment = x }) moment
    ∙ ap (λ x. record h { event = e; moment = m; reason = x }) reason
    ∙ ap (λ x. record h { event = e; moment = m; reason = Canceled; cause = x }) text

-- ---- hits next to the own hit

-- What ended a scope stays, or is one of these hits as before.
abbrev Says : Hit → Option (ℕ × Hit) → Option (ℕ × Hit) → Type 0
Says hit old new =
    (new ≡ old) ⊎ ((n : ℕ) × (new ≡ Some (n, hit)) × IfSome old (λ a. a.1 ≡ hit))

-- The own hit stays, or this one comes where there was none.
abbrev OwnSays : Hit → Option Hit → Option Hit → Type 0
OwnSays hit old new = (new ≡ old) ⊎ ((old ≡ None) × (new ≡ Some hit))

-- Two hits are ordered as their numbers are.
first_stays : (hit : Hit) (s : ℕ) (h : Hit) (up : Option (ℕ × Hit)) → ComesBefore h hit
    → IfSome up (λ a. a.1 ≡ hit) → joined up s (Some h) ≡ Some (s, h)
first_stays hit s h None comes alike = refl
first_stays hit s h (Some a) comes alike =
    ap (λ x. Some (cond (comes_before (s, h) (a.0, x)) (s, h) a)) alike
    ∙ ap (λ b. Some (cond b (s, h) a)) (comes.before s a.0)

one_of_alike : (hit : Hit) (s : ℕ) (h : Hit) (up : Option (ℕ × Hit)) → h ≡ hit
    → IfSome up (λ a. a.1 ≡ hit) → IfSome (joined up s (Some h)) (λ a. a.1 ≡ hit)
one_of_alike hit s h None same alike = same
one_of_alike hit s h (Some a) same alike = by_order (comes_before (s, h) a)
  where
    by_order : (b : Bool) → (cond b (s, h) a).1 ≡ hit
    by_order true = same
    by_order false = alike

-- A hit that is this one stands somewhere.
somewhere : (hit : Hit) (found : Option (ℕ × Hit)) → IsSome found → IfSome found (λ a. a.1 ≡ hit)
    → (n : ℕ) × (found ≡ Some (n, hit))
somewhere hit None some same = absurd (false≢true some)
somewhere hit (Some a) some same = (a.0, ap (λ x. Some (a.0, x)) same)

-- With the own hit as it was.
own_same : (hit : Hit) (s : ℕ) (own : Option Hit) (up up' : Option (ℕ × Hit))
    → IfSome own (IsLevel hit) → Says hit up up' → Says hit (joined up s own) (joined up' s own)
own_same hit s own up up' level (inl same) = inl (ap (λ x. joined x s own) same)
own_same hit s None up up' level (inr one) = inr one
own_same hit s (Some h) up up' (inl comes) (inr one) =
    inl (first_stays hit s h up' comes (subst (λ x. IfSome x (λ a. a.1 ≡ hit)) (sym one.1) refl)
    ∙ sym (first_stays hit s h up comes one.2))
own_same hit s (Some h) up up' (inr same) (inr one) =
    let there = somewhere hit (joined up' s (Some h)) refl
    (one_of_alike hit s h up' same (subst (λ x. IfSome x (λ a. a.1 ≡ hit)) (sym one.1) refl)) in
    inr (there.0, there.1, one_of_alike hit s h up same one.2)

-- With this hit as the own one.
own_new : (hit : Hit) (s : ℕ) (up up' : Option (ℕ × Hit)) → IfSome up (λ a. IsLevel hit a.1)
    → Says hit up up' → Says hit up (joined up' s (Some hit))
own_new hit s up up' level (inr one) =
    let there = somewhere hit (joined up' s (Some hit)) refl
    (one_of_alike hit s hit up' refl (subst (λ x. IfSome x (λ a. a.1 ≡ hit)) (sym one.1) refl)) in
    inr (there.0, there.1, one.2)
own_new hit s None up' level (inl same) =
    inr (s, ap (λ x. joined x s (Some hit)) same, tt)
own_new hit s (Some a) up' (inl comes) (inl same) =
    inl (ap (λ x. joined x s (Some hit)) same
    ∙ ap (λ b. Some (cond b (s, hit) a)) (comes.behind a.0 s))
own_new hit s (Some a) up' (inr alike) (inl same) =
    let there = somewhere hit (joined (Some a) s (Some hit)) refl
    (one_of_alike hit s hit (Some a) refl alike) in
    inr (there.0, ap (λ x. joined x s (Some hit)) same ∙ there.1, alike)

joined_says : (hit : Hit) (s : ℕ) (own own' : Option Hit) (up up' : Option (ℕ × Hit))
    → IfSome own (IsLevel hit) → IfSome up (λ a. IsLevel hit a.1) → OwnSays hit own own'
    → Says hit up up' → Says hit (joined up s own) (joined up' s own')
joined_says hit s own own' up up' level_own level_up (inl same) says =
    subst (λ x. Says hit (joined up s own) (joined up' s x)) (sym same)
    (own_same hit s own up up' level_own says)
joined_says hit s own own' up up' level_own level_up (inr new) says =
    subst (λ x. Says hit (joined up s x) (joined up' s own')) (sym new.0)
    (subst (λ x. Says hit up (joined up' s x)) (sym new.1) (own_new hit s up up' level_up says))

-- ---- the rows

-- Each own hit comes before this one, or is the same.
abbrev AreLevel : Hit → List Scope → Type 0
AreLevel hit rows = (n : ℕ) (h : Hit) → own_hit rows n ≡ Some h → IsLevel hit h

-- What this hit leaves of level ones.
abbrev OwnLevel : Hit → Option Hit → Option Hit → Type 0
OwnLevel hit old new = IfSome old (IsLevel hit) × OwnSays hit old new

abbrev FirstLevel : Hit → Option (ℕ × Hit) → Option (ℕ × Hit) → Type 0
FirstLevel hit old new = IfSome old (λ a. IsLevel hit a.1) × Says hit old new

-- The first of level hits is level.
level_joined : (hit : Hit) (s : ℕ) (own : Option Hit) (up : Option (ℕ × Hit))
    → IfSome own (IsLevel hit) → IfSome up (λ a. IsLevel hit a.1)
    → IfSome (joined up s own) (λ a. IsLevel hit a.1)
level_joined hit s None up level_own level_up = level_up
level_joined hit s (Some h) None level_own level_up = level_own
level_joined hit s (Some h) (Some a) level_own level_up = by_order (comes_before (s, h) a)
  where
    by_order : (b : Bool) → IsLevel hit (cond b (s, h) a).1
    by_order true = level_own
    by_order false = level_up

level_kept : (hit : Hit) → IsKept (FirstLevel hit) (OwnLevel hit)
level_kept hit = record {
  none = (tt, inl refl);
  join = λ s up up' own own' high low. (
    level_joined hit s own up low.0 high.0,
    joined_says hit s own own' up up' low.0 high.0 low.1 high.1,
  );
}

own_says : (hit : Hit) (own : Option Hit) → OwnSays hit own (option_or own (Some hit))
own_says hit None = inr (refl, refl)
own_says hit (Some h) = inl refl

-- Each row is there again, and this hit at most is new.
rows_level : (hit : Hit) (s : ℕ) (rows : List Scope) → AreLevel hit rows
    → RowsRelate (OwnLevel hit) rows (at_row (with_hit hit) s rows)
rows_level hit s rows level n a found = elim (cases_eq n s) [
  | inl here ↦ (
    with_hit hit a,
    ap (slice_get (at_row (with_hit hit) s rows)) here
        ∙ slice_get-at_row_same (with_hit hit) s rows
        ∙ ap (option_map (with_hit hit)) (ap (slice_get rows) (sym here) ∙ found),
    record { kind = refl; parent = refl; hit = (level_own a.hit refl, own_says hit a.hit) },
  )
  | inr other ↦ (
    a,
    slice_get-at_row_other (with_hit hit) s n rows other ∙ found,
    record { kind = refl; parent = refl; hit = (level_own a.hit refl, inl refl) },
  )
]
  where
    level_own : (own : Option Hit) → a.hit ≡ own → IfSome own (IsLevel hit)
    level_own None at = tt
    level_own (Some h) at = level n h (ap (option_and_then (λ row. row.hit)) found ∙ at)

-- ---- what ended a scope

ending_says : (hit : Hit) (a : ℕ × Hit) (new : Option (ℕ × Hit)) → Says hit (Some a) new
    → option_map (λ x. x.1) new ≡ Some a.1
ending_says hit a new (inl same) = ap (option_map (λ x. x.1)) same
ending_says hit a new (inr one) = ap (option_map (λ x. x.1)) one.1 ∙ ap Some (sym one.2)

ending_stays : (hit : Hit) (s : ℕ) (rows : List Scope) → AreOrdered rows → AreLevel hit rows
    → (n : ℕ) (h : Hit) → ending rows n ≡ Some h
    → ending (at_row (with_hit hit) s rows) n ≡ Some h
ending_stays hit s rows ordered level n h was = by_first (first_hit rows n) refl was
  where
    new : List Scope
    new = at_row (with_hit hit) s rows

    by_first : (first : Option (ℕ × Hit)) → first_hit rows n ≡ first
        → option_map (λ a. a.1) first ≡ Some h → ending new n ≡ Some h
    by_first None at is = absurd (none-some h is)
    by_first (Some a) at is =
        let first = first_hits_relate (FirstLevel hit) (OwnLevel hit) (level_kept hit) rows new
        ordered (ordered_hit hit s rows ordered) (rows_level hit s rows level) n a at in
        ending_says hit a (first_hit new n) first.1 ∙ is

-- ---- one event's hits on groups' scopes

are_level : (e clock : ℕ) (cause : Option (List ℕ)) (rows : List Scope) → ArePastHits clock rows
    → AreEarlierOrAlike rows e (unwrap_or cause (reason_text Canceled))
    → AreLevel (new_hit e clock Canceled cause) rows
are_level e clock cause rows past later n h own =
    option_and_then_some (λ row. row.hit) (slice_get rows n) h own
    (λ row found has. by_event row (later n row h found has) (past n row h found has))
  where
    text : List ℕ
    text = unwrap_or cause (reason_text Canceled)

    by_event : (row : Scope)
        → (h.event < e) ⊎ ((h.event ≡ e) × (is_group_kind row.kind ≡ true) × (h.cause ≡ text))
        → IsPastHit clock row.kind h → IsLevel (new_hit e clock Canceled cause) h
    by_event row (inl less) of = inl (earlier_event h (new_hit e clock Canceled cause) less)
    by_event row (inr alike) of = elim (cases_lt h.moment clock) [
      | inl less ↦ inl (earlier_moment h (new_hit e clock Canceled cause) alike.0 less)
      | inr reached ↦ inr (same_hit e clock text h alike.0
          (let same : h.moment ≡ clock = omega (arith, of.past) in same) (of.cancels alike.1)
          alike.2)
    ]

pub endings_stay_alike : (e clock s : ℕ) (cause : Option (List ℕ)) (rows : List Scope)
    → AreOrdered rows → ArePastHits clock rows
    → AreEarlierOrAlike rows e (unwrap_or cause (reason_text Canceled))
    → EndingsStay rows (at_row (with_hit (new_hit e clock Canceled cause)) s rows)
endings_stay_alike e clock s cause rows ordered past later =
    let hit = new_hit e clock Canceled cause in
    ending_stays hit s rows ordered (are_level e clock cause rows past later)

-- So the marks can spread down from this hit.
pub struck_alike : (t : TreeState) (e s : ℕ) (cause : Option (List ℕ)) → AreOrdered t.scopes
    → ArePastHits t.clock t.scopes
    → AreEarlierOrAlike t.scopes e (unwrap_or cause (reason_text Canceled))
    → has_kind can_be_hit t s ≡ true → Struck t.scopes s (new_hit e t.clock Canceled cause)
struck_alike t e s cause ordered past later can = record {
  joins = λ row found. can_be_hit_joins row.kind (kind_passed can_be_hit t s row can found);
  stays = λ n h known. ending_stays (new_hit e t.clock Canceled cause) s t.scopes ordered
      (are_level e t.clock cause t.scopes past later) n h;
}
