use Rattle.scope_tree.proofs.Chaining.{left}
use Rattle.scope_tree.proofs.Spread.{Walk}
use Rattle.scope_tree.proofs.indexes.marks.mark_children.Given as goal

abbrev pub invariant-loop-child : goal.invariant-loop-child
invariant-loop-child g l =
    Walk l.links.keys l.fn.marks l.marks l.fn.work.items l.work.items l.s l.at l.child

abbrev pub decreases-loop-child : goal.decreases-loop-child
decreases-loop-child g l = left l.child
