use Rattle.std.proofs.Common.{refl}
use Rattle.plan_lines.proofs.hearing.hear_alone.Goals as goal

pub returns-in-Command : goal.returns-in-Command
returns-in-Command c = rw c.in-Command.is (
  refl,
  record { command = c.command_of-command.result; line = c.args.number },
  refl,
  c.command_of-command.ensures,
  refl,
)
