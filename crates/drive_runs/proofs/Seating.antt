-- A sitting is made of a plan, and of what is known of its night.
use Rattle.std.specs.Prelude.{◌≡◌, ℕ, List}
use Rattle.std.proofs.Common.{ap, subst, sym, ◌∙◌}
use Rattle.drive_nights.specs.Nights.{night_text}
use Rattle.drive_parts.specs.declared.plans.NightPlan.{NightPlan}
use Rattle.drive_parts.specs.declared.rounds.Round.{Round}
use Rattle.drive_runs.specs.declared.sittings.Kept.{Kept}
use Rattle.drive_runs.specs.declared.sittings.Sitting.{Sitting}
use Rattle.drive_runs.specs.Sittings.{HasPlan, HasSettings, IsFirstOf, IsFresh, IsSittingOf}

-- The sitting of a round has the settings of the round.
pub sits_down : (known : Kept) (round : Round) (kept : Kept) (s : Sitting) (pools : List ℕ)
    → pools ≡ round.plan.plan.pools.items → HasSettings known round.heard pools kept
    → HasPlan s round.plan → s.kept ≡ kept → s.names.night ≡ night_text kept.night
    → IsSittingOf known round s
sits_down known round kept s pools are settings plan its night = record {
  has_plan = plan;
  settings =
      subst (λ (l : List ℕ). HasSettings known round.heard l s.kept) are
      (subst (λ (k : Kept). HasSettings known round.heard pools k) (sym its) settings);
  named = night ∙ ap (λ (k : Kept). night_text k.night) (sym its);
}

-- Nothing is known of the first sitting of a night but its plan.
pub sits_first : (plan : NightPlan) (night now known : ℕ) (kept : Kept) (s : Sitting)
    → known ≡ now → IsFresh plan.plan night known kept → HasPlan s plan → s.kept ≡ kept
    → s.names.night ≡ night_text kept.night → IsFirstOf plan night now s
sits_first plan night now known kept s at fresh of_plan its named = record {
  has_plan = of_plan;
  fresh =
      subst (λ (n : ℕ). IsFresh plan.plan night n s.kept) at
      (subst (λ (k : Kept). IsFresh plan.plan night known k) (sym its) fresh);
  named = named ∙ ap (λ (n : ℕ). night_text n) fresh.night_is;
}
