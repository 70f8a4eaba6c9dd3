use Rattle.plan_lines.specs.Reading.{held}
use Rattle.plan_lines.proofs.Reading.{IsOpen}
use Rattle.plan_lines.proofs.readers.LineReader.next_line.Given as goal

abbrev pub invariant-loop-turn : goal.invariant-loop-turn
invariant-loop-turn g l =
    IsOpen (held l.initial.self) (held l.self)
    (g.R.Read.remaining l.initial.input) (g.R.Read.remaining l.input) l.line.items l._turn
