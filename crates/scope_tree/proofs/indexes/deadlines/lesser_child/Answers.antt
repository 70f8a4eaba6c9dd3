use Rattle.std.proofs.Common.{arith}
use Rattle.scope_tree.proofs.Heaps.{known_at}
use Rattle.scope_tree.proofs.indexes.deadlines.lesser_child.Goals as goal

pub key-requires : goal.key-requires
key-requires c = known_at c.args.scopes.now c.args.due.now _ c.requires.known (omega arith)

pub key-requires-then-right-due : goal.key-requires-then-right-due
key-requires-then-right-due c = known_at c.args.scopes.now c.args.due.now _ c.requires.known
    (omega arith)
