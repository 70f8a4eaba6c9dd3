use Rattle.night_plan.specs.Nights.{night}
use Rattle.night_plan.specs.Queues.{AreCandidates}
use Rattle.night_plan.proofs.choices.candidates.Given as goal

abbrev pub invariant-loop-c : goal.invariant-loop-c
invariant-loop-c l = AreCandidates (night l.plan l.facts) l.all l.c l.queue.items
