use Rattle.std.proofs.Common.{◌≡◌}
use Rattle.state_views.specs.Walks.{IsAt, after}
use Rattle.state_views.proofs.tree_walks.next_beside.Given as goal

-- What follows the node follows the place, too.
abbrev pub invariant-loop-place : goal.invariant-loop-place
invariant-loop-place l =
    (after l.node l.parents l.node ≡ after l.place l.parents l.place)
    × IsAt l.parents l.place l.above.items

abbrev pub decreases-loop-place : goal.decreases-loop-place
decreases-loop-place l = l.place
