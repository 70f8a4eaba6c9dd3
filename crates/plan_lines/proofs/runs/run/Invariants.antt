use Rattle.plan_lines.specs.Reading.{held}
use Rattle.plan_lines.proofs.Running.{HasRun}
use Rattle.plan_lines.proofs.runs.run.Given as goal

abbrev pub invariant-loop-number : goal.invariant-loop-number
invariant-loop-number g l =
    HasRun (held l.reader) l.number l.part
    (g.R.Read.remaining l.initial.input) (g.R.Read.remaining l.input)
    (g.W.Write.contents l.initial.output) (g.W.Write.contents l.output)
