use Rattle.std.proofs.Common.{◌∙◌, ap}
use Rattle.std.specs.Global.{Vec}
use Rattle.night_plan.specs.declared.commands.Command.{Command}
use Rattle.plan_lines.proofs.drafts.Draft.add.Goals as goal

pub returns-in_ok-closed-in-Command : goal.returns-in_ok-closed-in-Command
returns-in_ok-closed-in-Command c =
    rw c.in-Command.is (
      c.command_of-command.result,
      c.command_of-command.ensures,
      c.with_last.ensures.last,
      ap (λ (v : Vec Command). v.items) c.with_last.ensures.commands
          ∙ c.in_ok-closed-in-Command.ensures.commands,
      c.with_last.ensures.groups ∙ c.in_ok-closed-in-Command.ensures.groups,
      c.with_last.ensures.pools ∙ c.in_ok-closed-in-Command.ensures.pools,
    )
