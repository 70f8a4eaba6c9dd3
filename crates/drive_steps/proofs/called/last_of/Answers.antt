use Rattle.drive_steps.proofs.Naming.{key_called, last_is}
use Rattle.drive_steps.proofs.called.last_of.Goals as goal

pub returns : goal.returns
returns g c =
    last_is c.args.state.now c.args.names.now c.args.plan.now.commands.items c.args.c
    c.group_of-group.result.now c.index.result.now c.last_try.result c.group_of-group.ensures.is
    (key_called c.args.plan.now c.args.names.now c.args.c c.index.result.now c.requires.named
    c.requires.within c.index.ensures) c.last_try.ensures
