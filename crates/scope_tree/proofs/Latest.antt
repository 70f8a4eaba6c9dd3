-- A hit that comes after all others ends no scope that was done.
use Rattle.run_model.proofs.Common.{◌≡◌, ◌≢◌, ◌⊎◌, ◌<◌, ℕ, zero, suc, Bool, true, false, cond}
use Rattle.run_model.proofs.Common.{List, length, Option, Some, None, slice_get, inl, inr, refl}
use Rattle.run_model.proofs.Common.{sym, ap, subst, ◌∙◌, arith, option_map, option_and_then}
use Rattle.run_model.proofs.Common.{option_or, cases_eq, none-some, at_row, is_root, is_detached}
use Rattle.run_model.proofs.Common.{own_hit, comes_before, first_hit, ending, AreOrdered, with_hit}
use Rattle.run_model.proofs.Common.{slice_get-at_row_same, slice_get-at_row_other, row_there}
use Rattle.run_model.specs.declared.scopes.Hit.{Hit}
use Rattle.run_model.specs.declared.scopes.Scope.{Scope}
use Rattle.model_laws.specs.Searches.{above, joined, first_hit_from}
use Rattle.model_laws.proofs.Lines.{first_hit_up}
use Rattle.model_laws.proofs.Least.{first_hit_least}
use Rattle.model_laws.proofs.Levels.{ordered_hit}

-- Each own hit comes before this one at scope n, and this one after it.
abbrev pub IsLatest : List Scope → ℕ → Hit → Type 0
IsLatest rows n hit = (t : ℕ) (h : Hit) → own_hit rows t ≡ Some h
    → (comes_before (t, h) (n, hit) ≡ true) × (comes_before (n, hit) (t, h) ≡ false)

-- What is found stays, or it is this hit where there was none.
abbrev Says : ℕ → Hit → Option (ℕ × Hit) → Option (ℕ × Hit) → Type 0
Says n hit old new = (new ≡ old) ⊎ ((old ≡ None) × (new ≡ Some (n, hit)))

-- Beside an own hit that stays.
own_stays : (n : ℕ) (hit : Hit) (s : ℕ) (own : Option Hit) (up up' : Option (ℕ × Hit))
    → ((x : Hit) → own ≡ Some x → comes_before (s, x) (n, hit) ≡ true) → Says n hit up up'
    → Says n hit (joined up s own) (joined up' s own)
own_stays n hit s None up up' first says = says
own_stays n hit s (Some x) up up' first (inl same) = inl (ap (λ o. joined o s (Some x)) same)
own_stays n hit s (Some x) up up' first (inr new) = inl
    (ap (λ o. joined o s (Some x)) new.1
    ∙ ap (λ b. Some (cond b (s, x) (n, hit))) (first x refl)
    ∙ sym (ap (λ o. joined o s (Some x)) new.0))

-- Beside this hit, at its own scope.
own_comes : (n : ℕ) (hit : Hit) (up up' : Option (ℕ × Hit))
    → ((b : ℕ × Hit) → up ≡ Some b → comes_before (n, hit) b ≡ false) → Says n hit up up'
    → Says n hit up (joined up' n (Some hit))
own_comes n hit None up' behind (inl same) =
    inr (refl, ap (λ o. joined o n (Some hit)) same)
own_comes n hit (Some b) up' behind (inl same) = inl
    (ap (λ o. joined o n (Some hit)) same
    ∙ ap (λ x. Some (cond x (n, hit) b)) (behind b refl))
own_comes n hit up up' behind (inr new) = inr (
  new.0,
  ap (λ o. joined o n (Some hit)) new.1 ∙ either (comes_before (n, hit) (n, hit))
      (n, hit),
)
  where
    either : (b : Bool) (x : ℕ × Hit) → Some (cond b x x) ≡ Some x
    either true x = refl
    either false x = refl

module _ (rows : List Scope) (n : ℕ) (hit : Hit) (ordered : AreOrdered rows)
    (free : own_hit rows n ≡ None) (latest : IsLatest rows n hit) where
  abbrev after : List Scope
  after = at_row (with_hit hit) n rows

  ordered' : AreOrdered after
  ordered' = ordered_hit hit n rows ordered

  after_first : (s : ℕ) (b : ℕ × Hit) → first_hit rows s ≡ Some b
      → comes_before (n, hit) b ≡ false
  after_first s b found = (latest b.0 b.1 (first_hit_least rows s b found).own).1

  module _ (s : ℕ) (row : Scope) (found : slice_get rows s ≡ Some row)
      (parents : is_root row.kind ≡ false
      → Says n hit (first_hit rows row.parent) (first_hit after row.parent)) where
    above_says : Says n hit (above (first_hit rows) None row) (above (first_hit after) None row)
    above_says = by_root (is_root row.kind) parents
      where
        by_root : (b : Bool)
            → (b ≡ false → Says n hit (first_hit rows row.parent) (first_hit after row.parent))
            → Says n hit (cond b None (first_hit rows row.parent))
            (cond b None (first_hit after row.parent))
        by_root true up = inl refl
        by_root false up = up refl

    above_after : (b : ℕ × Hit) → above (first_hit rows) None row ≡ Some b
        → comes_before (n, hit) b ≡ false
    above_after b is = by_root (is_root row.kind) is
      where
        by_root : (r : Bool) → cond r None (first_hit rows row.parent) ≡ Some b
            → comes_before (n, hit) b ≡ false
        by_root true at = absurd (none-some b at)
        by_root false at = after_first row.parent b at

    under_detached : (own own' : Option Hit)
        → Says n hit (joined (above (first_hit rows) None row) s own)
        (joined (above (first_hit after) None row) s own') → (d : Bool)
        → Says n hit (cond d None (joined (above (first_hit rows) None row) s own))
        (cond d None (joined (above (first_hit after) None row) s own'))
    under_detached own own' says true = inl refl
    under_detached own own' says false = says

    other_says : s ≢ n → Says n hit (first_hit rows s) (first_hit after s)
    other_says other =
        subst (λ o. Says n hit o (first_hit after s)) (sym (first_hit_up rows s row ordered found))
        (subst (Says n hit (first_hit_from rows s row))
        (sym (first_hit_up after s row ordered'
        (slice_get-at_row_other (with_hit hit) n s rows other ∙ found)))
        (under_detached row.hit row.hit
        (own_stays n hit s row.hit _ _
        (λ x has. (latest s x (ap (option_and_then (λ r. r.hit)) found ∙ has)).0) above_says)
        (is_detached row.kind)))

    here_says : s ≡ n → Says n hit (first_hit rows s) (first_hit after s)
    here_says same =
        let none : row.hit ≡ None =
        sym (ap (option_and_then (λ r. r.hit)) (ap (slice_get rows) (sym same) ∙ found)) ∙ free
        in
        let there : slice_get after s ≡ Some (with_hit hit row) =
        ap (slice_get after) same ∙ slice_get-at_row_same (with_hit hit) n rows
        ∙ ap (option_map (with_hit hit)) (ap (slice_get rows) (sym same) ∙ found) in
        subst (λ o. Says n hit o (first_hit after s)) (sym (first_hit_up rows s row ordered found))
        (subst (Says n hit (first_hit_from rows s row))
        (sym (first_hit_up after s (with_hit hit row) ordered' there))
        (under_detached row.hit (option_or row.hit (Some hit))
        (subst (λ o. Says n hit (joined (above (first_hit rows) None row) s o)
        (joined (above (first_hit after) None row) s (option_or o (Some hit)))) (sym none)
        (subst (λ k. Says n hit (above (first_hit rows) None row)
        (joined (above (first_hit after) None row) k (Some hit))) (sym same)
        (own_comes n hit _ _ above_after above_says)))
        (is_detached row.kind)))

  row_says : (s : ℕ) (row : Scope) → slice_get rows s ≡ Some row
      → ((t : ℕ) → t < s → Says n hit (first_hit rows t) (first_hit after t))
      → Says n hit (first_hit rows s) (first_hit after s)
  row_says s row found lesser =
      let parents : is_root row.kind ≡ false
      → Says n hit (first_hit rows row.parent) (first_hit after row.parent) =
      λ below. lesser row.parent (ordered s row found below) in
      elim (cases_eq s n) [
        | inl same ↦ here_says s row found parents same
        | inr other ↦ other_says s row found parents other
      ]

  says : (most s : ℕ) → s < most → s < length rows
      → Says n hit (first_hit rows s) (first_hit after s)
  says zero s less within = absurd (omega (arith, less))
  says (suc most) s less within =
      let there = row_there rows s within in
      row_says s there.0 there.1
      (λ t lower. says most t (omega (arith, lower, less)) (omega (arith, lower, within)))

  -- What ended a scope stays.
  pub latest_stays : (s : ℕ) (h : Hit) → ending rows s ≡ Some h → s < length rows
      → ending (at_row (with_hit hit) n rows) s ≡ Some h
  latest_stays s h was within = elim (says (suc s) s (omega arith) within) [
    | inl same ↦ ap (option_map (λ a. a.1)) same ∙ was
    | inr new ↦ absurd (none-some h (sym (ap (option_map (λ a. a.1)) new.0) ∙ was))
  ]
