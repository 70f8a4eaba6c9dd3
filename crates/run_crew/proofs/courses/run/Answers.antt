use Rattle.std.proofs.Common.{arith, ◌∙◌}
use Rattle.run_crew.proofs.Coursing.{declines, run_by, run_by_none}
use Rattle.run_crew.proofs.courses.run.Goals as goal

pub returns-then-handles-clause-calls : goal.returns-then-handles-clause-calls
returns-then-handles-clause-calls g c =
    run_by g.W.WorkerCalls.step (g.W.WorkerCalls.jobs c.args.worker.now) c.args.info.now
    c.loop-job.job
    c.handles.result c.make_turns.result _ _ _ _
    (omega (arith, c.loop-job-test.true, c.jobs-job-end.ensures)) c.if-handles.true
    c.loop-job.invariant.1 c.handles.ensures.step c.make_turns.ensures.calls

pub loop-job-preserved : goal.loop-job-preserved
loop-job-preserved g c = (
  c.handles.ensures.jobs ∙ c.loop-job.invariant.0,
  declines g.W.WorkerCalls.step c.args.info.now.job c.loop-job.job c.handles.result _ _ _
      c.if-handles.false c.loop-job.invariant.1 c.handles.ensures.step,
)

pub returns-clause-calls : goal.returns-clause-calls
returns-clause-calls g c =
    run_by_none g.W.WorkerCalls.step (g.W.WorkerCalls.jobs c.args.worker.now) c.args.info.now
    c.loop-job.job
    c.failure.result _ _
    (omega (arith, c.loop-job-test.false, c.loop-job.auto.job-end, c.jobs-job-end.ensures))
    c.failure.ensures c.loop-job.invariant.1
