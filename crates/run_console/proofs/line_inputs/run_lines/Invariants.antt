use Rattle.std.proofs.Common.{◌≡◌, ◌≤◌, ◌+◌, ◌-◌, ℕ, List, [], length, false}
use Rattle.std.specs.Io.KnownBytes.{Consumes}
use Rattle.console_lines.specs.declared.lines.TheConstants.{LONGEST_INPUT}
use Rattle.run_console.specs.RunProgress.{PartRan}
use Rattle.run_console.proofs.line_inputs.run_lines.Given as goal

-- Some bytes were read and run, the run goes on, and no more was read than may be.
abbrev pub invariant-loop-total : goal.invariant-loop-total
invariant-loop-total g l =
    (bytes : List ℕ)
    × Consumes (g.R.Read.remaining l.initial.input) (g.R.Read.remaining l.input) bytes
    × (length bytes ≡ l.total)
    × (l.total ≤ LONGEST_INPUT + 1)
    × PartRan g.D.RunDisk.state l.until 1 l.number [] bytes l.initial.book l.book l.tail.items
    [] [] (g.W.Write.contents l.initial.output) (g.W.Write.contents l.output)
    × (l.buffer.items ≡ [])
    × (l.book.journal.broken ≡ false)

abbrev pub decreases-loop-total : goal.decreases-loop-total
decreases-loop-total g l = LONGEST_INPUT + 1 - l.total
