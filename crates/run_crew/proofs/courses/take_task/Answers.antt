use Rattle.run_model.proofs.Common.{ap, arith, rules, ◌<◌, ◌∙◌, length, common_steps}
use Rattle.run_model.specs.declared.bounds.TheConstants.{MOST_TASKS}
use Rattle.run_crew.specs.OwnCounts.{OwnCountsView, one_finish}
use Rattle.run_crew.proofs.Coursing.{finished, not_finished}
use Rattle.run_crew.proofs.courses.take_task.Goals as goal

pub returns-in_default-finish-clause-calls : goal.returns-in_default-finish-clause-calls
returns-in_default-finish-clause-calls g c =
    let room : length c.args.notes.now < MOST_TASKS =
    search (rules, c.is_full.ensures.full, c.is_full.ensures.most, c.if-is_full.false) in
    let own = rw c.in_default-finish.is at c.finish.ensures.own in
    not_finished g.W.WorkerCalls.step (g.W.WorkerCalls.jobs c.args.worker.now)
    (g.W.WorkerCalls.jobs c.start.new.worker) _ _ _ c.start.result c.in-Some.started
    c.run-outcome.result
    c.finish.result c.in_default-finish.field-0 c.args.notes.now _ _ _ _ c.start.ensures.jobs
    c.in-Some.is c.in_default-finish.is room (ap (λ (o : OwnCountsView). o.starts) own)
    c.start.ensures.calls c.run-outcome.ensures.calls
    c.finish.ensures.step

pub returns-clause-own : goal.returns-clause-own
returns-clause-own g c =
    (c.in-Ok.ensures.own ∙ ap one_finish c.in-Some.ensures.own, grind (arith, common_steps))

pub returns-clause-calls : goal.returns-clause-calls
returns-clause-calls g c =
    finished g.W.WorkerCalls.step (g.W.WorkerCalls.jobs c.args.worker.now)
    (g.W.WorkerCalls.jobs c.start.new.worker) _ _ _
    c.start.result c.in-Some.started c.run-outcome.result c.finish.result c.in-Ok.event
    c.args.notes.now c.note.new.self _ _ _ _ _ _ c.start.ensures.jobs c.in-Some.is c.in-Ok.is
    c.note.ensures.added (ap (λ (o : OwnCountsView). o.starts) c.in-Ok.ensures.own)
    c.start.ensures.calls c.run-outcome.ensures.calls
    c.finish.ensures.step c.wake.ensures.step (search rules)
