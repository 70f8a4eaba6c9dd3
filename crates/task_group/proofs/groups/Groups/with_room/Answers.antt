use Rattle.std.proofs.Common.{refl}
use Rattle.task_group.proofs.groups.Groups.with_room.Goals as goal

pub returns-clause-groups : goal.returns-clause-groups
returns-clause-groups g c =
    rw (c.in-Ok.ensures.items, c.in-Ok-with_capacity.ensures.items) refl
