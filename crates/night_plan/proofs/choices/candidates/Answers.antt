use Rattle.night_plan.specs.Nights.{night}
use Rattle.night_plan.proofs.Queueing.{candidates_more}
use Rattle.night_plan.proofs.choices.candidates.Goals as goal

pub loop-c-preserved : goal.loop-c-preserved
loop-c-preserved c =
    rw c.in_ok-push.ensures.items (candidates_more (night c.args.plan.now c.args.facts.now)
    c.args.all.now c.loop-c.c c.loop-c.queue.items c.candidate_of.result c.loop-c.invariant
    c.candidate_of.ensures.candidate c.candidate_of.ensures.command)
