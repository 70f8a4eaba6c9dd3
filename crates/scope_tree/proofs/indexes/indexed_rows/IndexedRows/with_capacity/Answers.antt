use Rattle.scope_tree.proofs.Indexing.{all_empty}
use Rattle.scope_tree.proofs.indexes.indexed_rows.IndexedRows.with_capacity.Goals as goal

pub invariant_of-result : goal.invariant_of-result
invariant_of-result g c =
    all_empty c.args.capacity _ _ _ _ _ _ _ _ _ c.requires c.in_ok-scopes.ensures.items
    c.in_ok-scopes.ensures.exact c.in_ok-marks.ensures.items c.in_ok-names.ensures
    c.in_ok-links.ensures c.new-due.ensures c.in_ok-reaches.ensures.items
    c.in_ok-marks.ensures.exact c.in_ok-reaches.ensures.exact
