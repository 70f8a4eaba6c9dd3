use Rattle.task_group.proofs.RowReads.{row_lent}
use Rattle.task_group.proofs.groups.Groups.task_row.Goals as goal

pub returns : goal.returns
returns g c =
    rw (← c.self.view_is)
    (row_lent c.self.inside.tasks.items c.deref.result.now c.args.task c.get.result
    c.deref.ensures.value c.get.ensures.lookup.0 c.get.ensures.lookup.1)
