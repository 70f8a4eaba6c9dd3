use Rattle.std.proofs.Common.{◌≡◌, ◌-◌, ℕ, cond, length}
use Rattle.std.specs.Prelude.{slice_index}
use Rattle.night_plan.specs.Choices.{sum_below, takes_at}
use Rattle.night_plan.specs.Nights.{night, runs}
use Rattle.night_plan.proofs.pools.left_over.Given as goal

abbrev pub invariant-loop-c : goal.invariant-loop-c
invariant-loop-c l = record {
  sized : length l.left.items ≡ length l.facts.sizes.items;
  left : (p : ℕ) → slice_index l.left.items p ≡ slice_index l.facts.sizes.items p
      - sum_below (λ c. cond (runs (night l.plan l.facts) c)
      (takes_at (night l.plan l.facts) p c) 0) l.c;
}
