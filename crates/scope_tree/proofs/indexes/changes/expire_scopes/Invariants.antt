use Rattle.std.proofs.Common.{length}
use Rattle.scope_tree.proofs.Expiring.{Passing}
use Rattle.scope_tree.proofs.indexes.changes.expire_scopes.Given as goal

abbrev pub invariant-loop-s : goal.invariant-loop-s
invariant-loop-s g l =
    Passing l.initial.scopes l.scopes l.links.keys l.marks l.due.items l.event l.clock

abbrev pub decreases-loop-s : goal.decreases-loop-s
decreases-loop-s g l = length l.due.items
