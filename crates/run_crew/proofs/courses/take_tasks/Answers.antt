use Rattle.std.proofs.Common.{rules, ◌∙◌}
use Rattle.run_crew.proofs.Coursing.{ended_shift, next_course}
use Rattle.run_crew.proofs.courses.take_tasks.Goals as goal

pub returns-then-not-take_task-clause-calls : goal.returns-then-not-take_task-clause-calls
returns-then-not-take_task-clause-calls g c =
    ended_shift g.W.WorkerCalls.step (g.W.WorkerCalls.jobs c.args.worker.now)
    (g.W.WorkerCalls.jobs c.loop.worker) _ _
    c.take_task.result c.loop.notes c.take_task.new.notes _ _ _ c.loop.invariant.4
    c.if-not-take_task.true c.loop.invariant.3 c.loop.invariant.5 c.take_task.ensures.calls

pub loop-preserved : goal.loop-preserved
loop-preserved g c = (
  search rules,
  search rules,
  search rules,
  search rules,
  c.take_task.ensures.jobs ∙ c.loop.invariant.4,
  next_course g.W.WorkerCalls.step (g.W.WorkerCalls.jobs c.args.worker.now)
      (g.W.WorkerCalls.jobs c.loop.worker) _ _
      c.take_task.result c.loop.notes c.take_task.new.notes _ _ _ c.loop.invariant.4
      c.if-not-take_task.false c.loop.invariant.5 c.take_task.ensures.calls,
)
