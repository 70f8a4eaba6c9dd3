use Rattle.std.proofs.Common.{refl}
use Rattle.task_group.proofs.groups.Groups.was_waited.Goals as goal

pub returns-in-Some : goal.returns-in-Some
returns-in-Some g c = rw (← c.in-Some.ensures) refl

pub returns-in-None : goal.returns-in-None
returns-in-None g c = rw (← c.in-None.ensures) refl
