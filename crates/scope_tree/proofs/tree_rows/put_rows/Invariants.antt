use Rattle.scope_tree.proofs.RowLoops.{PutSoFar}
use Rattle.scope_tree.proofs.tree_rows.put_rows.Given as goal

abbrev pub invariant-loop-row : goal.invariant-loop-row
invariant-loop-row l = PutSoFar l.rows l.row-index l.at l.end l.initial.out l.out
