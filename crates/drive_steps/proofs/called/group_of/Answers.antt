use Rattle.drive_steps.proofs.Naming.{group_called, group_listed}
use Rattle.drive_steps.proofs.called.group_of.Goals as goal

pub returns-clause-is : goal.returns-clause-is
returns-clause-is c =
    group_called c.args.plan.now c.args.names.now c.args.c c.index.result.now c.index-2.result.now
    (record {
      named = c.requires.named;
      less = c.requires.within;
      command_is = c.index.ensures;
      group_is = c.index-2.ensures;
    })

pub returns-clause-listed : goal.returns-clause-listed
returns-clause-listed c =
    group_listed c.args.plan.now c.args.names.now c.args.c c.index.result.now c.index-2.result.now
    (record {
      named = c.requires.named;
      less = c.requires.within;
      command_is = c.index.ensures;
      group_is = c.index-2.ensures;
    })
