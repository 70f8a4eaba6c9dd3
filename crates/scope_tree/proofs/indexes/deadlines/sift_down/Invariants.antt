use Rattle.std.proofs.Common.{◌-◌, length}
use Rattle.scope_tree.proofs.Heaps.{Sinking}
use Rattle.scope_tree.proofs.indexes.deadlines.sift_down.Given as goal

abbrev pub invariant-sink : goal.invariant-sink
invariant-sink l = Sinking l.scopes l.fn.due l.due l.i

abbrev pub decreases-sink : goal.decreases-sink
decreases-sink l = length l.due - l.i
