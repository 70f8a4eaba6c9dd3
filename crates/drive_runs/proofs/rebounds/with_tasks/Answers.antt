use Rattle.drive_runs.proofs.Rebounding.{tasks_then}
use Rattle.drive_runs.proofs.rebounds.with_tasks.Goals as goal

pub loop-i-preserved : goal.loop-i-preserved
loop-i-preserved c =
    tasks_then c.args.living.now c.args.begun.now c.loop-i.i c.task_at.result
    c.index-living-i.result c.with_task.result c.loop-i.all.items c.push.new.self.items
    c.loop-i-test.true c.index-living-i.is c.task_at.ensures c.with_task.ensures
    c.loop-i.invariant c.in_ok-push.ensures.items
