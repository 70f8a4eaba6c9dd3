use Rattle.night_plan.specs.Nights.{night}
use Rattle.night_plan.specs.Hopes.{AreStopped}
use Rattle.night_plan.proofs.standings.stopped_groups.Given as goal

abbrev pub invariant-loop-c : goal.invariant-loop-c
invariant-loop-c l = AreStopped (night l.plan l.facts) l.c l.stopped.items
