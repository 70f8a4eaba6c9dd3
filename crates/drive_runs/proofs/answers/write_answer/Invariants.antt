use Rattle.std.proofs.Common.{take}
use Rattle.drive_lines.specs.Orders.{order_lines}
use Rattle.plan_lines.specs.Writing.{IsWritten}
use Rattle.drive_runs.proofs.answers.write_answer.Given as goal

abbrev pub invariant-loop-line : goal.invariant-loop-line
invariant-loop-line g l =
    IsWritten (g.W.Write.contents l.fn.output) (g.W.Write.contents l.output)
    (order_lines (take l.line-index l.lines)) l.buffer.items
