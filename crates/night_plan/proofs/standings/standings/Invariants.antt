use Rattle.night_plan.specs.Nights.{night}
use Rattle.night_plan.specs.Hopes.{AreStanding}
use Rattle.night_plan.proofs.standings.standings.Given as goal

abbrev pub invariant-loop-p : goal.invariant-loop-p
invariant-loop-p l =
    AreStanding (night l.plan l.facts) l.now l.plan.order.items l.p l.all.items l.tallies.items
