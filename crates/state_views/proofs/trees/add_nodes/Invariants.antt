use Rattle.std.proofs.Common.{length}
use Rattle.state_views.specs.Walks.{drawn_next}
use Rattle.state_views.proofs.Drawing.{IsDrawnTo}
use Rattle.state_views.proofs.trees.add_nodes.Given as goal

-- The lines of the first nodes were added, and the next is known.
abbrev pub invariant-loop-next : goal.invariant-loop-next
invariant-loop-next g l =
    IsDrawnTo l.no_tasks l.state l.next l.above.items l.initial.sheet l.sheet
    (g.W.Write.contents l.initial.output) (g.W.Write.contents l.output)

abbrev pub decreases-loop-next : goal.decreases-loop-next
decreases-loop-next g l = length (drawn_next l.parents l.next)
