use Rattle.plan_lines.specs.Reading.{held}
use Rattle.drive_runs.proofs.Driving.{Comes}
use Rattle.drive_runs.proofs.runs.drive.Given as goal

-- The store was opened some times, and then left as this disk. This is how far the run has come.
abbrev pub invariant-loop-turn : goal.invariant-loop-turn
invariant-loop-turn g l =
    Comes g.D.RunDisk.state (g.R.Read.remaining l.fn.input) l.fn.disk l.disk l.start l.number
    (held l.reader) (g.R.Read.remaining l.input) (g.W.Write.contents l.fn.output)
    (g.W.Write.contents l.output)
