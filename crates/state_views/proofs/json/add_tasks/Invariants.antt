use Rattle.std.specs.Prelude.{◌≡◌, ◌≤◌}
use Rattle.state_views.specs.Entries.{place_of, task_item}
use Rattle.state_views.specs.Inspected.{lines_below}
use Rattle.state_views.specs.Forms.{word_of}
use Rattle.state_views.specs.Sheets.{Adds}
use Rattle.state_views.proofs.json.add_tasks.Given as goal

-- The entries of the first ones were added, and the place of the next is known.
abbrev pub invariant-loop-number : goal.invariant-loop-number
invariant-loop-number g l =
    Adds (lines_below (task_item (word_of l.phase) (word_of l.group) l.state) l.number)
    l.initial.sheet l.sheet (g.W.Write.contents l.initial.output) (g.W.Write.contents l.output)
    × (l.place ≡ place_of (word_of l.phase) (word_of l.group) l.state l.number)
    × (l.place ≤ l.number)
