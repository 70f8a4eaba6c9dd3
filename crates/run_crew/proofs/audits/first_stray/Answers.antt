use Rattle.std.proofs.Common.{below_more}
use Rattle.run_crew.specs.Audits.{IsStray}
use Rattle.run_crew.proofs.Strays.{first_stray-at, no_stray, no_stray-in}
use Rattle.run_crew.proofs.audits.first_stray.Goals as goal

pub returns-in-Some : goal.returns-in-Some
returns-in-Some c =
    first_stray-at _ _ _ _ _ _ c.as_slice-notes.ensures c.index-lists-worker.is
    c.loop-worker-test.true c.loop-worker.invariant c.in-Some.ensures

pub loop-worker-preserved : goal.loop-worker-preserved
loop-worker-preserved c = λ w i less.
    below_more (λ v. IsStray c.args.made.now c.args.lists.now v i → ⊥) c.loop-worker.worker
    (λ v l. c.loop-worker.invariant v i l)
    (no_stray-in _ _ _ _ _ c.as_slice-notes.ensures c.index-lists-worker.is
    c.loop-worker-test.true c.in_default.ensures i)
    w less

pub returns : goal.returns
returns c = no_stray _ _ _ c.loop-worker-test.false c.loop-worker.invariant
