use Rattle.std.proofs.Common.{◌∙◌, sym}
use Rattle.drive_steps.specs.Rooms.{last_group}
use Rattle.drive_steps.proofs.Naming.{has_room, key_called, next_is}
use Rattle.drive_steps.proofs.starts.next_try.Goals as goal

pub unreachable-requires : goal.unreachable-requires
unreachable-requires g c =
    let names = c.args.names.now in
    let group = c.group_of-group.result.now in
    has_room c.args.state.now names group c.group_of-group.ensures.listed c.requires.housed
    (sym {b = last_group c.args.state.now names.night group}
    c.last_group.ensures.last ∙ c.in_default.is)

pub returns : goal.returns
returns g c =
    let names = c.args.names.now in
    let group = c.group_of-group.result.now in
    let key = c.index.result.now in
    next_is c.args.state.now names c.args.plan.now.commands.items c.args.c group key c.in-Some.g
    c.last_of.result c.next_task.result c.group_of-group.ensures.is
    (key_called c.args.plan.now names c.args.c key c.requires.named c.requires.within
    c.index.ensures)
    (sym {b = last_group c.args.state.now names.night group}
    c.last_group.ensures.last ∙ c.in-Some.is) c.last_of.ensures c.next_task.ensures
