use Rattle.run_model.specs.declared.tasks.Task.{Task}
use Rattle.run_model.specs.Tasks.{is_running}
use Rattle.task_group.proofs.RowReads.{test_found, test_missed}
use Rattle.task_group.proofs.groups.Groups.is_running.Goals as goal

pub returns-in-Some : goal.returns-in-Some
returns-in-Some g c =
    rw (← c.self.view_is)
    (test_found (λ (task : Task). is_running task.stage) c.self.inside.tasks.items
    c.deref.result.now c.args.task c.in-Some.row.now c.is_running.result c.deref.ensures.value
    c.in-Some.ensures.lookup.0 c.in-Some.ensures.lookup.1 c.is_running.ensures)

pub returns-in-None : goal.returns-in-None
returns-in-None g c =
    rw (← c.self.view_is)
    (test_missed (λ (task : Task). is_running task.stage) c.self.inside.tasks.items
    c.deref.result.now c.args.task c.deref.ensures.value c.in-None.ensures.lookup.0)
