-- Events that refer only to what goes on lead both stores in the same way.
use Rattle.run_model.proofs.Common.{◌≡◌, Bool, true, false, List, [], ◌∷◌, map, Some, None, refl}
use Rattle.run_model.proofs.Common.{ap, subst, ◌∙◌, option_and_then, if◌then◌else◌, and_parts}
use Rattle.run_model.proofs.Common.{none-some, same_Some, allowed, run, Event, IsConsistent, State}
use Rattle.run_model.proofs.Common.{step}
use Rattle.model_laws.proofs.StateSteps.{kept_by}
use Rattle.state_renewal.specs.Renewed.{Part, state_renumbered}
use Rattle.state_renewal.specs.GoingOn.{all_name_part}
use Rattle.state_renewal.specs.PartEvents.{event_renumbered, names_part}
use Rattle.state_renewal.proofs.Refusals.{allowed_renumbered}
use Rattle.state_renewal.proofs.Hangs.{AreBoth}
use Rattle.state_renewal.proofs.Goes.{Goes, hangs}
use Rattle.state_renewal.proofs.GoesStill.{goes_still}
use Rattle.state_renewal.proofs.Steps.{step_renumbered}

-- The state and the part of it that goes on both keep the rules, and the part is closed.
pub record Both (part : Part) (p : State) : Type 0 where
  pub old : IsConsistent p
  pub new : IsConsistent (state_renumbered part p)
  pub go : Goes part p

pub are_both : (part : Part) (p : State) → Both part p → AreBoth part p
are_both part p both = record { old = both.old; new = both.new; hangs = hangs part p both.go }

pub both_step : (part : Part) (p : State) (e : Event) → Both part p → names_part part e ≡ true
    → allowed p e ≡ true → Both part (step p e)
both_step part p e both is may = record {
  old = kept_by p e both.old may;
  new =
      subst IsConsistent (step_renumbered part p e both.old both.go is)
      (kept_by (state_renumbered part p) (event_renumbered part e) both.new
      (allowed_renumbered part p e (are_both part p both) is may));
  go = goes_still part p e both.go is;
}

-- The new store is led as the old one is, and both keep the rules.
pub record IsLed (part : Part) (p : State) (events : List Event) (q : State) : Type 0 where
  pub run : run (state_renumbered part p) (map (event_renumbered part) events) ≡ Some
      (state_renumbered part q)
  pub both : Both part q

pub led : (part : Part) (events : List Event) (p q : State) → Both part p
    → all_name_part part events ≡ true → run p events ≡ Some q → IsLed part p events q
led part [] p q both are has =
    let same = same_Some p q has in
    record {
      run = ap (λ r. Some (state_renumbered part r)) same;
      both = subst
          (Both part) same both;
    }
led part (e ∷ events) p q both are has =
    by_allowed (λ r after. led part events r q after parts.1) (allowed p e) refl has
  where
    parts : (names_part part e ≡ true) × (all_name_part part events ≡ true)
    parts = and_parts (names_part part e) (all_name_part part events) are

    by_allowed : ((r : State) → Both part r → run r events ≡ Some q → IsLed part r events q)
        → (b : Bool) → allowed p e ≡ b
        → option_and_then (λ r. run r events) (if b then Some (step p e) else None) ≡ Some q
        → IsLed part p (e ∷ events) q
    by_allowed behind false not none = absurd (none-some q none)
    by_allowed behind true may rest_led =
        let rest =
        behind (step p e) (both_step part p e both parts.0 may) rest_led in
        record {
          run =
              ap (λ b. option_and_then (λ r. run r (map (event_renumbered part) events))
              (if b then Some (step (state_renumbered part p) (event_renumbered part e)) else None))
              (allowed_renumbered part p e (are_both part p both) parts.0 may)
              ∙ ap (λ r. run r (map (event_renumbered part) events))
              (step_renumbered part p e both.old both.go parts.0)
              ∙ rest.run;
          both = rest.both;
        }
