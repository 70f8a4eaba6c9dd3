-- After a change of event e, each hit came with event e or an earlier one.
use Rattle.run_model.proofs.Common.{◌≡◌, ◌⊎◌, ◌<◌, ◌+◌, ℕ, Bool, true, false, List, Option, Some}
use Rattle.run_model.proofs.Common.{None, slice_get, inl, inr, refl, sym, subst, ap, ◌∙◌, arith}
use Rattle.run_model.proofs.Common.{option_and_then, option_map, option_map_or, option_or}
use Rattle.run_model.proofs.Common.{cases_eq, same_Some, option_and_then_some, has_kind}
use Rattle.run_model.proofs.Common.{reason_text, at_row, is_group_kind, TreeState, with_hit}
use Rattle.run_model.proofs.Common.{after_cancel, new_hit, at_row_cases, slice_get-at_row_same}
use Rattle.run_model.proofs.Common.{slice_get-at_row_other}
use Rattle.std.specs.Option.{unwrap_or}
use Rattle.run_model.specs.declared.scopes.Hit.{Hit}
use Rattle.run_model.specs.declared.scopes.Kind.{Kind}
use Rattle.run_model.specs.declared.scopes.Reason.TheVariants.{Canceled}
use Rattle.run_model.specs.declared.scopes.Scope.{Scope}
use Rattle.model_laws.specs.Endings.{AreEarlier}
use Rattle.model_laws.proofs.Follows.{RowsFollow}
use Rattle.model_laws.proofs.WellFormed.{own_hit_follows}
use Rattle.scope_tree.specs.Checks.{AreEarlierOrAlike}
use Rattle.scope_tree.proofs.Passing.{kind_passed}

pub earlier_than_next : (e now : ℕ) (old new : List Scope) → RowsFollow e now old new
    → AreEarlier old e → AreEarlier new (e + 1)
earlier_than_next e now old new follows earlier s hit has =
    elim (own_hit_follows e now old new follows s hit has) [
      | inl had ↦ omega (arith, earlier s hit had)
      | inr of ↦ omega (arith, of.event)
    ]

-- The same if hits of event e are already on scopes of groups.
pub alike_than_next : (e now : ℕ) (cause : List ℕ) (old new : List Scope)
    → RowsFollow e now old new → AreEarlierOrAlike old e cause → AreEarlier new (e + 1)
alike_than_next e now cause old new follows later s hit has =
    elim (own_hit_follows e now old new follows s hit has) [
      | inl had ↦ option_and_then_some (λ row. row.hit) (slice_get old s) hit had
          (λ row found own. elim (later s row hit found own)
          [ inl less ↦ omega (arith, less) | inr alike ↦ omega (arith, alike.0) ])
      | inr of ↦ omega (arith, of.event)
    ]

-- One more hit on the scope of a group, with this cause, is equal to the others.
pub alike_again : (t : TreeState) (e s : ℕ) (cause : Option (List ℕ))
    → has_kind is_group_kind t s ≡ true
    → AreEarlierOrAlike t.scopes e (unwrap_or cause (reason_text Canceled))
    → AreEarlierOrAlike (after_cancel e s cause t).scopes e (unwrap_or cause (reason_text Canceled))
alike_again t e s cause group later n row hit found has =
    elim (at_row_cases (with_hit new) s n t.scopes row found) [
      | inl other ↦ later n row hit other.1 has
      | inr it ↦ subst Says (sym it.changed)
          (by_own it.old (ap (slice_get t.scopes) (sym it.here) ∙ it.found) it.found it.old.hit
          refl) has
    ]
  where
    new : Hit
    new = new_hit e t.clock Canceled cause

    IsAlike : Scope → Type 0
    IsAlike r = (hit.event < e)
        ⊎ ((hit.event ≡ e) × (is_group_kind r.kind ≡ true) ×
        (hit.cause ≡ unwrap_or cause (reason_text Canceled)))

    Says : Scope → Type 0
    Says r = r.hit ≡ Some hit → IsAlike r

    by_own : (old : Scope) → slice_get t.scopes s ≡ Some old → slice_get t.scopes n ≡ Some old
        → (own : Option Hit) → old.hit ≡ own → option_or own (Some new) ≡ Some hit → IsAlike old
    by_own old here at None is came =
        let same = same_Some new hit came in
        inr (
          ap (λ h. h.event) (sym same),
          kind_passed is_group_kind t s old group here,
          ap
              (λ h. h.cause) (sym same),
        )
    by_own old here at (Some own) is came = later n old hit at (is ∙ came)

-- If each hit is earlier, none is of event e.
pub earlier_is_alike : (rows : List Scope) (e : ℕ) (cause : List ℕ) → AreEarlier rows e
    → AreEarlierOrAlike rows e cause
earlier_is_alike rows e cause earlier s row hit found has =
    inl (earlier s hit (ap (option_and_then (λ r. r.hit)) found ∙ has))

-- A cancellation leaves every kind.
pub has_kind-after_cancel : (test : Kind → Bool) (t : TreeState) (e s n : ℕ)
    (cause : Option (List ℕ)) → has_kind test (after_cancel e s cause t) n ≡ has_kind test t n
has_kind-after_cancel test t e s n cause = elim (cases_eq n s) [
  | inl here ↦ ap passes (ap (slice_get (at_row (with_hit hit) s t.scopes)) here
      ∙ slice_get-at_row_same (with_hit hit) s t.scopes)
      ∙ by_row (slice_get t.scopes s) ∙ ap (has_kind test t) (sym here)
  | inr other ↦ ap passes (slice_get-at_row_other (with_hit hit) s n t.scopes other)
]
  where
    hit : Hit
    hit = new_hit e t.clock Canceled cause

    passes : Option Scope → Bool
    passes found = option_map_or (λ row. test row.kind) found false

    by_row : (found : Option Scope) → passes (option_map (with_hit hit) found) ≡ passes found
    by_row None = refl
    by_row (Some row) = refl
