use Rattle.scope_tree.specs.Names.{names_of}
use Rattle.scope_tree.proofs.Chaining.{left}
use Rattle.scope_tree.proofs.Naming.{Walking}
use Rattle.scope_tree.proofs.indexes.indexed_rows.IndexedRows.find.Given as goal

abbrev pub invariant-loop-at : goal.invariant-loop-at
invariant-loop-at g l = Walking (names_of l.scopes) l.name l.at

abbrev pub decreases-loop-at : goal.decreases-loop-at
decreases-loop-at g l = left l.at
