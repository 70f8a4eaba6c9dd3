use Rattle.std.proofs.Common.{◌≡◌, ◌≤◌, ◌+◌, ℕ, List, ◌++◌, length, false}
use Rattle.console_lines.specs.Progress.{kept}
use Rattle.run_console.specs.RunProgress.{PartRan}
use Rattle.run_console.proofs.line_inputs.run_part.Given as goal

-- The lines that end in a front of the part were run, the run goes on, and what is left stands
-- after it.
abbrev pub invariant-loop-end : goal.invariant-loop-end
invariant-loop-end g l =
    (prefix : List ℕ)
    × (l.part ≡ prefix ++ l.rest)
    × ((begun : List ℕ) → l.initial.tail.items ≡ kept begun →
    PartRan g.D.RunDisk.state l.until l.initial.number l.number begun prefix
    l.initial.book l.book l.tail.items l.initial.buffer.items l.buffer.items
    (g.W.Write.contents l.initial.output) (g.W.Write.contents l.output))
    × (l.number + length l.rest ≤ l.initial.number + length l.part)
    × (l.book.journal.broken ≡ false)

abbrev pub decreases-loop-end : goal.decreases-loop-end
decreases-loop-end g l = length l.rest
