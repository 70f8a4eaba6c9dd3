-- Facts about a store that goes on, and about the renewed one, at any time since the renewal.
use Rattle.run_model.proofs.Common.{◌≡◌, ◌⊎◌, ◌<◌, ◌≤◌, ℕ, true, false, List, length, Option, Some}
use Rattle.run_model.proofs.Common.{None, inl, inr, refl, sym, ap, subst, ◌∙◌, is_some, both_ways}
use Rattle.run_model.proofs.Common.{cases_lt, false≢true, true_from_ne_false, Event, IsConsistent}
use Rattle.run_model.proofs.Common.{ending, is_done, State, row_there}
use Rattle.run_model.specs.declared.scopes.Hit.{Hit}
use Rattle.model_laws.proofs.Stays.{endings_run}
use Rattle.model_laws.proofs.WellFormed.{well_formed_consistent}
use Rattle.state_renewal.specs.Renewed.{keeps_scope}
use Rattle.state_renewal.proofs.Keeps.{live_kept}
use Rattle.state_renewal.proofs.RulesKept.{rules_kept}
use Rattle.state_renewal.specs.GoingOn.{GoesOn, going_on}
use Rattle.state_renewal.proofs.Begins.{begins}
use Rattle.state_renewal.proofs.Goes.{goes_before, goes_first, goes_later}
use Rattle.state_renewal.proofs.Runs.{Both, IsLed, led}

both_first : (p : State) → IsConsistent p → Both (going_on p) p
both_first p consistent = record {
  old = consistent;
  new = subst IsConsistent (sym (begins p consistent)) (rules_kept p consistent);
  go = goes_first p consistent;
}

-- This is true of each state to which a store goes on.
pub led_on : (p q : State) (events : List Event) → GoesOn p events q
    → IsLed (going_on p) p events q
led_on p q events goes =
    led (going_on p) events p q (both_first p goes.rules) goes.names goes.run

-- ---- what doesn't go on

-- A scope that doesn't go on was there, and was done, as the store was renewed.
done_first : (p : State) (s : ℕ) → (going_on p).scopes s ≡ false
    → is_done p.tree.scopes s ≡ true
done_first p s goes = by_order (cases_lt s (length p.tree.scopes))
  where
    by_order : (s < length p.tree.scopes) ⊎ (length p.tree.scopes ≤ s)
        → is_done p.tree.scopes s ≡ true
    by_order (inr later) =
        absurd (both_ways ((going_on p).scopes s) goes
        (goes_later (length p.tree.scopes) (keeps_scope p) s later))
    by_order (inl less) =
        let row = row_there p.tree.scopes s less in
        true_from_ne_false (is_done p.tree.scopes s)
        (λ live.
        both_ways (keeps_scope p s)
        (sym (goes_before (length p.tree.scopes) (keeps_scope p) s less) ∙ goes)
        (live_kept p s row.0 row.1 live))

pub scopes_gone : (p q : State) (events : List Event) (s : ℕ) → GoesOn p events q
    → (going_on p).scopes s ≡ false → is_done q.tree.scopes s ≡ true
scopes_gone p q events s goes gone =
    by_end (ending p.tree.scopes s) refl (done_first p s gone)
  where
    by_end : (o : Option Hit) → ending p.tree.scopes s ≡ o → is_some o ≡ true
        → is_done q.tree.scopes s ≡ true
    by_end None at none = absurd (false≢true none)
    by_end (Some hit) at done =
        ap is_some
        (endings_run p q events (well_formed_consistent p goes.rules) goes.run s hit at)
