use Rattle.std.proofs.Common.{◌≡◌, ℕ, ◌<◌, false}
use Rattle.run_crew.specs.Audits.{is_left}
use Rattle.run_crew.proofs.audits.first_left.Given as goal

abbrev pub invariant-loop-task : goal.invariant-loop-task
invariant-loop-task l = (n : ℕ) → n < l.task → is_left l.state.work n ≡ false
