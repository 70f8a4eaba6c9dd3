-- Facts that the changes of the rows keep: parents have lower numbers, and hits are in the past.
use Rattle.run_model.proofs.Common.{◌≡◌, ◌≤◌, ℕ, zero, suc, true, false, nat_le, List, [], ◌∷◌}
use Rattle.run_model.proofs.Common.{◌++◌, map, Option, Some, None, slice_get, inl, inr, refl, sym}
use Rattle.run_model.proofs.Common.{subst, ap, ◌∙◌, arith, option_map, option_map_or, option_or}
use Rattle.run_model.proofs.Common.{false≢true, leb-true, none-some, same_Some, cond_some}
use Rattle.run_model.proofs.Common.{slice_get_within, root, new_scope, at_row, can_be_hit, is_root}
use Rattle.run_model.proofs.Common.{with_hit, hit_due, tick, new_hit, at_row_cases, push_cases}
use Rattle.run_model.proofs.Common.{map_cases, slice_get-at_row_other, slice_get-push_left}
use Rattle.run_model.specs.declared.scopes.Hit.{Hit}
use Rattle.run_model.specs.declared.scopes.Kind.{Kind}
use Rattle.run_model.specs.declared.scopes.Kind.TheVariants as kinds
use Rattle.run_model.specs.declared.scopes.Scope.{Scope}
use Rattle.run_model.specs.declared.scopes.Reason.TheVariants.{Canceled, DeadlineExceeded}
use Rattle.scope_tree.specs.Checks.{is_derived_kind}
use Rattle.scope_tree.specs.Sound.{AreRooted, IsPastHit, ArePastHits}

-- ---- order

-- ---- root

-- A cancellation of a scope that can be hit isn't of root.
pub rooted_hit : (hit : Hit) (s : ℕ) (rows : List Scope) → AreRooted rows
    → ((row : Scope) → slice_get rows s ≡ Some row → can_be_hit row.kind ≡ true)
    → AreRooted (at_row (with_hit hit) s rows)
rooted_hit hit s rows rooted can = record {
  first = first_stays s can;
  alone =
      λ n row found is.
      elim (at_row_cases (with_hit hit) s n rows row found) [
        | inl other ↦ rooted.alone n row other.1 is
        | inr it ↦ rooted.alone n it.old it.found (ap (λ r. is_root r.kind) (sym it.changed) ∙ is)
      ];
}
  where
    first_stays : (s : ℕ)
        → ((row : Scope) → slice_get rows s ≡ Some row → can_be_hit row.kind ≡ true)
        → slice_get (at_row (with_hit hit) s rows) 0 ≡ Some root
    first_stays zero can = absurd (false≢true (can root rooted.first))
    first_stays (suc s) can =
        slice_get-at_row_other (with_hit hit) (suc s) 0 rows (λ e. omega (arith, e))
        ∙ rooted.first

tick_kind : (e now : ℕ) (row : Scope) → (tick e now row).kind ≡ row.kind
tick_kind e now row = by_due (hit_due e now row.kind)
  where
    by_due : (due : Option Hit)
        → (option_map_or (λ hit. with_hit hit row) due row).kind ≡ row.kind
    by_due None = refl
    by_due (Some hit) = refl

pub rooted_ticked : (e now : ℕ) (rows : List Scope) → AreRooted rows
    → AreRooted (map (tick e now) rows)
rooted_ticked e now rows rooted = record {
  first = first_stays rows rooted.first;
  alone =
      λ n row found is.
      let it = map_cases (tick e now) n rows row found in
      rooted.alone n it.0 it.1
      (ap is_root (sym (tick_kind e now it.0)) ∙ ap (λ r. is_root r.kind) (sym it.2) ∙ is);
}
  where
    first_stays : (rows : List Scope) → slice_get rows 0 ≡ Some root
        → slice_get (map (tick e now) rows) 0 ≡ Some root
    first_stays [] e = absurd (none-some root e)
    first_stays (row ∷ rows) same = ap (option_map (tick e now)) same

pub rooted_pushed : (rows : List Scope) (new : Scope) → AreRooted rows → is_root new.kind ≡ false
    → AreRooted (rows ++ new ∷ [])
rooted_pushed rows new rooted below = record {
  first =
      slice_get-push_left rows new 0 (slice_get_within rows 0 root rooted.first) ∙ rooted.first;
  alone =
      λ s row found is.
      elim (push_cases rows new s row found) [
        | inl old ↦ rooted.alone s row old is
        | inr last ↦
            absurd (false≢true (sym below ∙ ap (λ r. is_root r.kind) (sym last.1) ∙ is))
      ];
}

pub rooted_derived : (e clock : ℕ) (name : List ℕ) (parent : ℕ) (kind : Kind) (rows : List Scope)
    → AreRooted rows → is_root kind ≡ false
    → AreRooted (rows ++ tick e clock (new_scope name parent kind) ∷ [])
rooted_derived e clock name parent kind rows rooted below =
    let new = new_scope name parent kind in
    rooted_pushed rows (tick e clock new) rooted (ap is_root (tick_kind e clock new) ∙ below)

-- A derive doesn't make another root.
pub derived_below_root : (kind : Kind) → is_derived_kind kind ≡ true → is_root kind ≡ false
derived_below_root kinds.Root ok = sym ok
derived_below_root kinds.Cancel ok = refl
derived_below_root kinds.Cause ok = refl
derived_below_root (kinds.Deadline moment cause) ok = refl
derived_below_root (kinds.Value key text) ok = refl
derived_below_root kinds.Detached ok = refl
derived_below_root kinds.Group ok = refl

-- ---- the hits of one row

past_later : (clock later : ℕ) (kind : Kind) (hit : Hit) → clock ≤ later → IsPastHit clock kind hit
    → IsPastHit later kind hit
past_later clock later kind hit less past = record {
  can = past.can;
  past = omega (arith, past.past);
  cancels = past.cancels;
}

due_past : (e clock : ℕ) (kind : Kind) (hit : Hit) → hit_due e clock kind ≡ Some hit
    → IsPastHit clock kind hit
due_past e clock (kinds.Deadline moment cause) hit due =
    let parts = cond_some (nat_le moment clock) (new_hit e moment DeadlineExceeded cause) hit due in
    subst (IsPastHit clock (kinds.Deadline moment cause)) parts.1 (record {
      can = refl;
      past = leb-true moment clock parts.0;
      cancels = λ group. absurd (false≢true group);
    })
due_past e clock kinds.Root hit due = absurd (none-some hit due)
due_past e clock kinds.Cancel hit due = absurd (none-some hit due)
due_past e clock kinds.Cause hit due = absurd (none-some hit due)
due_past e clock (kinds.Value key text) hit due = absurd (none-some hit due)
due_past e clock kinds.Detached hit due = absurd (none-some hit due)
due_past e clock kinds.Group hit due = absurd (none-some hit due)

-- The own hits of a row are of the past.
abbrev IsPastRow : ℕ → Scope → Type 0
IsPastRow clock row = (hit : Hit) → row.hit ≡ Some hit → IsPastHit clock row.kind hit

with_hit_past : (clock : ℕ) (hit : Hit) (row : Scope) → IsPastRow clock row
    → IsPastHit clock row.kind hit → IsPastRow clock (with_hit hit row)
with_hit_past clock hit row old new h has = by_own row.hit refl has
  where
    by_own : (own : Option Hit) → row.hit ≡ own → option_or own (Some hit) ≡ Some h
        → IsPastHit clock row.kind h
    by_own None at is = subst (IsPastHit clock row.kind) (same_Some hit h is) new
    by_own (Some had) at is = old h (at ∙ is)

tick_past : (e clock : ℕ) (row : Scope) → IsPastRow clock row → IsPastRow clock (tick e clock row)
tick_past e clock row old = by_due (hit_due e clock row.kind) refl
  where
    by_due : (due : Option Hit) → hit_due e clock row.kind ≡ due
        → IsPastRow clock (option_map_or (λ hit. with_hit hit row) due row)
    by_due None at = old
    by_due (Some hit) at = with_hit_past clock hit row old (due_past e clock row.kind hit at)

-- ---- the hits of all rows

pub cancelled_past : (clock s : ℕ) (rows : List Scope) (hit : Hit) → ArePastHits clock rows
    → ((row : Scope) → slice_get rows s ≡ Some row → IsPastHit clock row.kind hit)
    → ArePastHits clock (at_row (with_hit hit) s rows)
cancelled_past clock s rows hit old new n row h found has =
    elim (at_row_cases (with_hit hit) s n rows row found) [
      | inl other ↦ old n row h other.1 has
      | inr it ↦ subst (λ r. IsPastRow clock r) (sym it.changed)
          (with_hit_past clock hit it.old (λ g own. old n it.old g it.found own)
          (new it.old (ap (slice_get rows) (sym it.here) ∙ it.found)))
          h has
    ]

pub ticked_past : (e clock later : ℕ) (rows : List Scope) → clock ≤ later → ArePastHits clock rows
    → ArePastHits later (map (tick e later) rows)
ticked_past e clock later rows less old n row h found has =
    let it = map_cases (tick e later) n rows row found in
    subst (λ r. IsPastRow later r) (sym it.2)
    (tick_past e later it.0 (λ g own. past_later clock later it.0.kind g less
    (old n it.0 g it.1 own)))
    h has

pub derived_past : (e clock : ℕ) (name : List ℕ) (parent : ℕ) (kind : Kind) (rows : List Scope)
    → ArePastHits clock rows
    → ArePastHits clock (rows ++ tick e clock (new_scope name parent kind) ∷ [])
derived_past e clock name parent kind rows old n row h found has =
    elim (push_cases rows (tick e clock (new_scope name parent kind)) n row found) [
      | inl left ↦ old n row h left has
      | inr last ↦ subst (λ r. IsPastRow clock r) (sym last.1)
          (tick_past e clock (new_scope name parent kind) (λ g own. absurd (none-some g own))) h has
    ]

-- ---- what is canceled

pub cancellation_past : (e clock : ℕ) (cause : Option (List ℕ)) (kind : Kind)
    → can_be_hit kind ≡ true → IsPastHit clock kind (new_hit e clock Canceled cause)
cancellation_past e clock cause kind can =
    record { can = can; past = omega arith; cancels = λ group. refl }
