use Rattle.scope_tree.proofs.Heaps.{Rising}
use Rattle.scope_tree.proofs.indexes.deadlines.sift_up.Given as goal

abbrev pub invariant-loop-i : goal.invariant-loop-i
invariant-loop-i l = Rising l.scopes l.fn.due l.due l.i

abbrev pub decreases-loop-i : goal.decreases-loop-i
decreases-loop-i l = l.i
