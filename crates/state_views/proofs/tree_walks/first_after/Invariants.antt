use Rattle.std.proofs.Common.{◌≡◌, drop}
use Rattle.state_views.specs.Trees.{behind, places_of}
use Rattle.state_views.proofs.tree_walks.first_after.Given as goal

-- The places up to this one have another parent.
abbrev pub invariant-loop-place : goal.invariant-loop-place
invariant-loop-place l =
    behind l.parents l.node l.parent ≡ places_of l.parent l.place (drop l.place l.parents)
