use Rattle.std.proofs.Common.{◌≡◌}
use Rattle.scope_tree.proofs.RowLoops.{ReadSoFar}
use Rattle.scope_tree.proofs.tree_rows.read_more.Given as goal

abbrev pub invariant-loop-n : goal.invariant-loop-n
invariant-loop-n g l = record {
  so : ReadSoFar l.head.count l.head.clock l.head.scopes l.n l.initial.rows.rows l.rows.rows l.bytes
      l.rest;
  capacity : l.rows.capacity ≡ l.initial.rows.capacity;
}
