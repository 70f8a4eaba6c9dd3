use Rattle.night_plan.proofs.Choosing.{soonest_step}
use Rattle.night_plan.proofs.choices.soonest.Goals as goal

pub loop-standing-preserved : goal.loop-standing-preserved
loop-standing-preserved c =
    soonest_step c.args.all.now c.loop-standing.standing-index c.loop-standing.later _ _
    c.loop-standing-test.true c.sooner-later.ensures c.loop-standing.invariant
