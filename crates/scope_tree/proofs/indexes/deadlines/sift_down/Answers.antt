use Rattle.std.proofs.Common.{arith}
use Rattle.scope_tree.proofs.Heaps.{known_at, sinks_to, sinks}
use Rattle.scope_tree.proofs.indexes.deadlines.sift_down.Goals as goal

pub key-requires : goal.key-requires
key-requires c = known_at c.args.scopes.now c.sink.due _ c.sink.invariant.known (let h =
    c.sink.invariant.inside in omega arith)

pub key-requires-else-child-i : goal.key-requires-else-child-i
key-requires-else-child-i c = known_at c.args.scopes.now c.sink.due _ c.sink.invariant.known
    (sinks_to c.args.scopes.now c.args.due.now c.sink.due c.sink.i c.lesser_child-child.result
    c.sink.invariant c.lesser_child-child.ensures c.if-child-i.false).1

pub sink-preserved : goal.sink-preserved
sink-preserved c = sinks c.args.scopes.now c.args.due.now c.sink.due c.sink.i
    c.lesser_child-child.result c.sink.invariant c.lesser_child-child.ensures c.swap.new.self
    c.if-child-i.false (omega (arith, c.key.ensures, c.key-else-child-i.ensures))
    c.swap.ensures.after
