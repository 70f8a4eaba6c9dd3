use Rattle.std.proofs.Common.{ap}
use Rattle.run_crew.specs.OwnCounts.{OwnCountsView}
use Rattle.run_crew.proofs.Coursing.{begun_task, failed_save, refused_start}
use Rattle.run_crew.proofs.courses.start.Goals as goal

pub returns-in_default-clause-calls : goal.returns-in_default-clause-calls
returns-in_default-clause-calls g c =
    let own = rw c.in_default.is at c.start.ensures.own in
    refused_start g.W.WorkerCalls.step c.start.result c.in_default.field-0 _ _ _ _ c.in_default.is
    (ap (λ (o : OwnCountsView). o.starts) own) c.start.ensures.step

pub returns-in-Ok-save-clause-calls : goal.returns-in-Ok-save-clause-calls
returns-in-Ok-save-clause-calls g c =
    let own = rw c.in-Ok.is at c.start.ensures.own in
    begun_task g.W.WorkerCalls.step c.start.result c.in-Ok.started c.save.result
    c.in-Ok-save.field-0
    _ _ _ _ _ c.in-Ok.is c.in-Ok-save.is c.save.ensures.reached
    (ap (λ (o : OwnCountsView). o.starts) own) c.start.ensures.step
    c.save.ensures.step

pub returns-in-Err-clause-calls : goal.returns-in-Err-clause-calls
returns-in-Err-clause-calls g c =
    let own = rw c.in-Ok.is at c.start.ensures.own in
    failed_save g.W.WorkerCalls.step c.start.result c.in-Ok.started c.save.result c.in-Err.field-0
    _ _ _ _ _ c.in-Ok.is c.in-Err.is (ap (λ (o : OwnCountsView). o.starts) own)
    c.start.ensures.step c.save.ensures.step
