use Rattle.std.proofs.Common.{◌-◌}
use Rattle.task_group.proofs.Trees.{IsOnWay}
use Rattle.task_group.proofs.queue.least.Given as goal

abbrev pub invariant-loop-node : goal.invariant-loop-node
invariant-loop-node l = IsOnWay l.leaves l.node l.nodes

abbrev pub decreases-loop-node : goal.decreases-loop-node
decreases-loop-node l = l.leaves - l.node
