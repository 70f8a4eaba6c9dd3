use Rattle.night_plan.specs.Nights.{night}
use Rattle.night_plan.specs.Stops.{AreToStop}
use Rattle.night_plan.proofs.stops.to_stop.Given as goal

abbrev pub invariant-loop-c : goal.invariant-loop-c
invariant-loop-c l = AreToStop (night l.plan l.facts) l.c l.all.items
