use Rattle.std.proofs.Common.{◌-◌, sym, subst, arith}
use Rattle.task_group.proofs.Trees.{IsOnWay, none_in, some_leaves, way_from_root, way_goes_on}
use Rattle.task_group.proofs.Trees.{way_ends}
use Rattle.task_group.proofs.queue.least.Goals as goal

pub bounds-nodes-1 : goal.bounds-nodes-1
bounds-nodes-1 c =
    let some = some_leaves c.args.leaves c.args.nodes.now c.requires in
    let size = c.requires.size in
    omega arith

pub returns-then-not-nodes-clause-least : goal.returns-then-not-nodes-clause-least
returns-then-not-nodes-clause-least c =
    none_in c.args.leaves c.args.nodes.now c.requires c.if-not-nodes.true

pub loop-node-init : goal.loop-node-init
loop-node-init c = way_from_root c.args.leaves c.args.nodes.now c.requires c.if-not-nodes.false

pub loop-node-preserved : goal.loop-node-preserved
loop-node-preserved c =
    subst (λ n. IsOnWay c.args.leaves n c.args.nodes.now) (sym c.child-node.ensures)
    (way_goes_on c.args.leaves c.loop-node.node c.args.nodes.now c.requires c.loop-node.invariant
    c.loop-node-test.true)

pub returns-clause-least : goal.returns-clause-least
returns-clause-least c =
    let past = c.loop-node-test.false in
    way_ends c.args.leaves c.loop-node.node c.args.nodes.now c.loop-node.invariant past
    (c.loop-node.node - c.args.leaves) (omega arith)
