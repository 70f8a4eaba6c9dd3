use Rattle.scope_tree.proofs.TreeReads.{lent_writable}
use Rattle.scope_tree.proofs.trees.Tree.write_rows.Goals as goal

pub put_rows-requires-clause-rows : goal.put_rows-requires-clause-rows
put_rows-requires-clause-rows g c =
    lent_writable c.self.inside.clock c.self.inside.rows.rows c.as_slice.result.now
    c.self.invariant.rooted c.self.invariant.hits c.as_slice.ensures
