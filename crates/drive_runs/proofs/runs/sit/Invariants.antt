use Rattle.std.specs.Prelude.{◌≡◌, ℕ, List, Option}
use Rattle.plan_lines.specs.Reading.{held}
use Rattle.drive_runs.specs.Runs.{Goes, IsAt, Place, doing_at}
use Rattle.drive_runs.proofs.runs.sit.Given as goal

-- The number is that of the lines that were taken, and from wherever the run was, it has come here.
abbrev pub invariant-loop-line : goal.invariant-loop-line
invariant-loop-line g l =
    (l.number ≡ l.line)
    × ((at : Place) (r0 w0 : Option (List ℕ))
    → IsAt at (doing_at l.fn.start) l.fn.number (held l.fn.reader) r0
    (g.R.Read.remaining l.fn.input) w0 (g.W.Write.contents l.fn.output)
    → Goes g.D.RunDisk.state at l.fn.book l.next l.line (held l.reader) r0
    (g.R.Read.remaining l.input) w0 (g.W.Write.contents l.output) l.book)
