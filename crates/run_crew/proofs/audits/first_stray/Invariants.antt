use Rattle.std.proofs.Common.{ℕ, ◌<◌}
use Rattle.run_crew.specs.Audits.{IsStray}
use Rattle.run_crew.proofs.audits.first_stray.Given as goal

abbrev pub invariant-loop-worker : goal.invariant-loop-worker
invariant-loop-worker l = (w i : ℕ) → w < l.worker → IsStray l.made l.lists w i → ⊥
