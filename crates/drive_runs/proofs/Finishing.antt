-- A night is over if each of its commands stands so that it is final.
use Rattle.std.specs.Prelude.{◌≡◌, ◌<◌, ◌==◌, ℕ, suc, Bool, true, false, List, [], ◌∷◌, length}
use Rattle.std.specs.Prelude.{Some, slice_get}
use Rattle.std.specs.List.{list_all}
use Rattle.std.proofs.Common.{arith, get_or, refl, subst, sym}
use Rattle.std.proofs.lemmas.Bool.Decides.{nat_tests}
use Rattle.std.proofs.lemmas.Grind.{common_steps}
use Rattle.std.proofs.lemmas.List.Folds.{list_all_at}
use Rattle.std.proofs.lemmas.Option.{slice_get-get_or}
use Rattle.run_model.proofs.Common.{and_parts}
use Rattle.night_plan.specs.Nights.{IsFinal, Night}
use Rattle.night_plan.specs.Standings.{Stands, is_final}
use Rattle.night_plan.specs.declared.standings.Standing.{Standing}
use Rattle.night_plan.specs.declared.standings.Standing.TheVariants as standing
use Rattle.night_plan.proofs.Final.{final_from}
use Rattle.drive_runs.specs.declared.living.Living.{Living}
use Rattle.drive_runs.specs.Laws.{IsOver}
use Rattle.drive_runs.specs.Rounds.{AreStandings, is_over}

passes : (all : List Standing) (c : ℕ) → list_all is_final all ≡ true → c < length all
    → is_final (get_or all c standing.Pending) ≡ true
passes all c final less = by_case (is_final (get_or all c standing.Pending)) refl
  where
    by_case : (b : Bool) → is_final (get_or all c standing.Pending) ≡ b
        → is_final (get_or all c standing.Pending) ≡ true
    by_case true is = is
    by_case false is = absurd (cc (final, list_all_at is_final all c standing.Pending less is))

pub all_final : (n : Night) (now : ℕ) (all : List Standing) → AreStandings n now all
    → list_all is_final all ≡ true → (c : ℕ) → c < length n.commands → IsFinal n c
all_final n now all are final c less =
    let within : c < length all = subst (λ (m : ℕ). c < m) (sym are.sized) less in
    let s : Standing = get_or all c standing.Pending in
    final_from n now c s (are.each c s (slice_get-get_or all c standing.Pending within))
    (passes all c final within)

-- The standings of a night are those of the night that a state shows.
pub standings_shown : (n m : Night) (now clock : ℕ) (all : List Standing) → n ≡ m → now ≡ clock
    → length all ≡ length n.commands
    → ((c : ℕ) (s : Standing) → slice_get all c ≡ Some s → Stands n now c s)
    → AreStandings m clock all
standings_shown n m now clock all same at sized each =
    subst (λ (x : Night). AreStandings x clock all) same
    (subst (λ (t : ℕ). AreStandings n t all) at record { sized = sized; each = each })

-- ---- no try lives

never_none : (n : ℕ) → (suc n == 0) ≡ false
never_none n = grind (arith, nat_tests, common_steps)

pub none_left : (living : List Living) → (length living == 0) ≡ true → living ≡ []
none_left [] e = refl
none_left (one ∷ living) e = absurd (cc (e, never_none (length living)))

-- Each command of the night is final, and no try lives.
pub over_so : (n : Night) (now : ℕ) (all : List Standing) (living : List Living)
    → AreStandings n now all → is_over all living ≡ true → IsOver n living
over_so n now all living are over =
    let parts = and_parts (list_all is_final all) (length living == 0) over in
    record {
      final = all_final n now all are parts.0;
      idle = none_left living parts.1;
    }
