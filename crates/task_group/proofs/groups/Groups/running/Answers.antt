use Rattle.task_group.proofs.Rooms.{running_few}
use Rattle.task_group.proofs.groups.Groups.running.Goals as goal

pub returns-clause-count : goal.returns-clause-count
returns-clause-count g c = rw (← c.self.view_is) c.self.invariant.0.running

pub returns-clause-few : goal.returns-clause-few
returns-clause-few g c = rw (← c.self.view_is) (running_few c.self.invariant.0)
