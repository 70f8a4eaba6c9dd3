use Rattle.night_plan.specs.Queues.{IsSoonestOf}
use Rattle.night_plan.proofs.choices.soonest.Given as goal

abbrev pub invariant-loop-standing : goal.invariant-loop-standing
invariant-loop-standing l = IsSoonestOf l.all l.standing-index l.later
