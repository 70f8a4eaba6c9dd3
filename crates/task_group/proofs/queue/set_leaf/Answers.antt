use Rattle.std.proofs.Common.{◌≤◌, ◌<◌, ◌/◌, ◌∙◌, arith}
use Rattle.std.proofs.lemmas.List.{drop-set-add, drop-set-lt}
use Rattle.task_group.proofs.Trees.{halved, leaf_changed, one_up, some_leaves}
use Rattle.task_group.proofs.queue.set_leaf.Goals as goal

pub loop-node-init : goal.loop-node-init
loop-node-init c =
    let some = some_leaves c.args.leaves c.args.nodes.now c.requires.tree in
    let known = c.requires.known in
    record {
      low = omega arith;
      high = omega arith;
      mended = leaf_changed c.args.leaves c.args.n c.args.nodes.now c.args.wanted c.requires.tree;
      leaf = drop-set-add c.args.leaves c.args.nodes.now c.args.n c.args.wanted;
    }

pub loop-node-preserved : goal.loop-node-preserved
loop-node-preserved c =
    let n = c.loop-node.node in
    let more = c.loop-node-test.true in
    let high = c.loop-node.invariant.high in
    let low : 1 ≤ n / 2 = omega arith in
    let inner : n / 2 < c.args.leaves = omega arith in
    record {
      low = low;
      high = omega arith;
      mended =
          one_up c.args.leaves n (n / 2) c.loop-node.nodes c.is_below_up-up.result
          c.loop-node.invariant.mended low inner (halved n) c.is_below_up-up.ensures;
      leaf =
          drop-set-lt c.args.leaves c.loop-node.nodes (n / 2) c.is_below_up-up.result inner
          ∙ c.loop-node.invariant.leaf;
    }
