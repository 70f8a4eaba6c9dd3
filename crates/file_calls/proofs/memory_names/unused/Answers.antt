use Rattle.std.proofs.Common.{◌≡◌, ◌<◌, IfSome, subst}
use Rattle.file_calls.proofs.NameLemmas.{below_more, none_above}
use Rattle.file_calls.proofs.memory_names.unused.Goals as goal

pub loop-step-preserved : goal.loop-step-preserved
loop-step-preserved c =
    let same : c.to.result ≡ c.step-item.result.to = cc in
    below_more c.args.steps.now c.loop-step.step-index c.loop-step.next c.in_ok-next.next
    c.step-item.result c.loop-step-test.true c.step-item.is c.in_ok-next.ensures.later
    (subst (λ to. IfSome to (λ file. file < c.in_ok-next.next)) same c.in_ok-next.ensures.above)
    c.loop-step.invariant

pub returns : goal.returns
returns c =
    none_above c.args.steps.now c.loop-step.step-index c.loop-step.next c.loop-step-test.false
    c.loop-step.invariant
