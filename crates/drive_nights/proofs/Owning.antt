-- If no group was found to have a scope of its own, none has one.
use Rattle.std.proofs.Common.{◌≡◌, ℕ, true, false, Option, Some, None, cond, length}
use Rattle.std.proofs.Common.{is_some, inl, inr, ap, refl}
use Rattle.std.proofs.lemmas.Bool.{cases_lt, false_from_ne_true}
use Rattle.std.proofs.lemmas.Option.{slice_get_past}
use Rattle.std.specs.Option.{option_and_then}
use Rattle.std.specs.Prelude.{is_none}
use Rattle.run_model.specs.declared.groups.Group.{Group}
use Rattle.run_model.specs.Step.{own_scope}
use Rattle.night_drive.specs.Searches.{last_below}
use Rattle.drive_nights.specs.Owners.{AreBareIfNoneOwns, has_own}
use Rattle.drive_nights.proofs.Rooming.{last_found}

one_of_two : (o : Option ℕ) → is_none o ≡ true → is_some o ≡ true → ⊥
one_of_two None none some = cc
one_of_two (Some n) none some = cc

unowned : (o : Option ℕ) → is_some o ≡ false → o ≡ None
unowned None no_one = refl
unowned (Some s) no_one = cc

pub bare_if_none_owns : AreBareIfNoneOwns
bare_if_none_owns p none g = elim (cases_lt g (length p.work.groups)) [
  | inl less ↦
      unowned (own_scope p.work g)
      (false_from_ne_true (has_own p g)
      (λ owns. one_of_two (last_below (has_own p) (length p.work.groups)) none
      (last_found (has_own p) (length p.work.groups) g less owns)))
  | inr more ↦
      ap (λ (o : Option Group). option_and_then (λ (row : Group).
      cond row.bare None (Some row.scope)) o) (slice_get_past p.work.groups g more)
]
