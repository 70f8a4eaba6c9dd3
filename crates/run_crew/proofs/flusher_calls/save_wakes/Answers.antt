use Rattle.run_crew.proofs.Coursing.{ended_watch, next_save, no_save}
use Rattle.run_crew.proofs.flusher_calls.save_wakes.Goals as goal

pub loop-init : goal.loop-init
loop-init g c = no_save g.W.FlusherCalls.step _

pub returns-in_default : goal.returns-in_default
returns-in_default g c = record {
  calls = ended_watch g.W.FlusherCalls.step c.loop.heard c.wait.result _ _ _ c.in_default.is
      c.loop.invariant c.wait.ensures.step;
}

pub loop-preserved : goal.loop-preserved
loop-preserved g c =
    next_save g.W.FlusherCalls.step c.loop.heard _ c.wait.result c.save.result _ _ _ _
    c.in-Some-wait.is
    c.wait.ensures.later c.save.ensures.reached c.loop.invariant c.wait.ensures.step
    c.save.ensures.step
