use Rattle.std.proofs.Common.{take}
use Rattle.plan_lines.specs.Answers.{answer_lines}
use Rattle.plan_lines.specs.Writing.{IsWritten}
use Rattle.plan_lines.proofs.runs.write_answer.Given as goal

abbrev pub invariant-loop-line : goal.invariant-loop-line
invariant-loop-line g l =
    IsWritten (g.W.Write.contents l.fn.output) (g.W.Write.contents l.output)
    (answer_lines (take l.line-index l.lines)) l.buffer.items
