use Rattle.run_model.proofs.Common.{◌≡◌, ◌≤◌, ◌<◌, ◌+◌, drop, slice_set}
use Rattle.task_group.proofs.Trees.{IsTreeBut}
use Rattle.task_group.proofs.queue.set_leaf.Given as goal

abbrev pub invariant-loop-node : goal.invariant-loop-node
invariant-loop-node l = record {
  low : 1 ≤ l.node;
  high : l.node < l.leaves + l.leaves;
  mended : IsTreeBut l.leaves l.node l.nodes;
  leaf : drop l.leaves l.nodes ≡ slice_set (drop l.leaves l.fn.nodes) l.n l.wanted;
}

abbrev pub decreases-loop-node : goal.decreases-loop-node
decreases-loop-node l = l.node
