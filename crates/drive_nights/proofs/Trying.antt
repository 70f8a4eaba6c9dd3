-- A first night can be opened in a new store.
use Rattle.std.proofs.Common.{◌≡◌, ℕ, zero, suc, List, [], ◌∷◌, Some, codes, slice_get}
use Rattle.std.proofs.Common.{ap, refl, sym, subst, ◌∙◌, arith}
use Rattle.std.proofs.lemmas.Option.{none-some, same_Some}
use Rattle.std.specs.Prelude.{slice_index}
use Rattle.run_model.specs.declared.layouts.Layout.TheVariants.{Small}
use Rattle.run_model.specs.Event as event
use Rattle.run_model.specs.State.{formatted}
use Rattle.model_laws.proofs.Starting.{formatted_consistent}
use Rattle.model_laws.proofs.StateSteps.{run_keeps}
use Rattle.night_drive.specs.Distinct.{IsPlain}
use Rattle.drive_nights.specs.Effects.{AreNamed, IsOpening}
use Rattle.drive_nights.specs.Examples.{new_store, none_of_two, two_groups, until_of}

disks_plain : IsPlain (codes "disks")
disks_plain zero one two = absurd (omega (arith, one))
disks_plain (suc zero) one two = absurd (omega (arith, one))
disks_plain (suc (suc zero)) one two = absurd (omega (arith, one))
disks_plain (suc (suc (suc zero))) one two = absurd (omega (arith, one))
disks_plain (suc (suc (suc (suc zero)))) one two = absurd (omega (arith, one))
disks_plain (suc (suc (suc (suc (suc i))))) one two = absurd (omega (arith, one))

tapes_plain : IsPlain (codes "tapes")
tapes_plain zero one two = absurd (omega (arith, one))
tapes_plain (suc zero) one two = absurd (omega (arith, one))
tapes_plain (suc (suc zero)) one two = absurd (omega (arith, one))
tapes_plain (suc (suc (suc zero))) one two = absurd (omega (arith, one))
tapes_plain (suc (suc (suc (suc zero)))) one two = absurd (omega (arith, one))
tapes_plain (suc (suc (suc (suc (suc i))))) one two = absurd (omega (arith, one))

-- Two words that begin with other letters.
apart_by : (a b : ℕ) (xs ys : List ℕ) → (a ≡ b → ⊥) → a ∷ xs ≡ b ∷ ys → ⊥
apart_by a b xs ys other same = other (ap (λ zs. slice_index zs 0) same)

two_are_named : AreNamed two_groups
two_are_named = record { plain = plain; apart = apart; free = free }
  where
    plain : (g : ℕ) (name : List ℕ) → slice_get two_groups g ≡ Some name → IsPlain name
    plain zero name at = subst IsPlain (same_Some (codes "disks") name at) disks_plain
    plain (suc zero) name at = subst IsPlain (same_Some (codes "tapes") name at) tapes_plain
    plain (suc (suc g)) name at = absurd (none-some name at)

    apart : (g h : ℕ) (name : List ℕ) → slice_get two_groups g ≡ Some name
        → slice_get two_groups h ≡ Some name → g ≡ h
    apart zero zero name one two = refl
    apart zero (suc zero) name one two =
        absurd (apart_by 100 116 _ _ (λ same. omega (arith, same))
        (same_Some (codes "disks") name one ∙ sym (same_Some (codes "tapes") name two)))
    apart (suc zero) zero name one two =
        absurd (apart_by 116 100 _ _ (λ same. omega (arith, same))
        (same_Some (codes "tapes") name one ∙ sym (same_Some (codes "disks") name two)))
    apart (suc zero) (suc zero) name one two = refl
    apart (suc (suc g)) h name one two = absurd (none-some name one)
    apart zero (suc (suc h)) name one two = absurd (none-some name two)
    apart (suc zero) (suc (suc h)) name one two = absurd (none-some name two)

    free : (g : ℕ) → slice_get two_groups g ≡ Some (codes "night") → ⊥
    free zero at =
        apart_by 100 110 _ _ (λ same. omega (arith, same))
        (same_Some (codes "disks") (codes "night") at)
    free (suc zero) at =
        apart_by 116 110 _ _ (λ same. omega (arith, same))
        (same_Some (codes "tapes") (codes "night") at)
    free (suc (suc g)) at = none-some (codes "night") at

pub first_opening : IsOpening new_store 1 two_groups none_of_two (until_of 600 (codes "06:00"))
first_opening = record {
  consistent = run_keeps (event.Restart ∷ []) (formatted Small) new_store.state
      (formatted_consistent Small) refl;
  bare = λ g. refl;
  named = two_are_named;
  number = omega arith;
  taken = refl;
}
