use Rattle.run_model.proofs.Common.{length, ap, arith}
use Rattle.scope_tree.specs.IndexedRows.{Numbered}
use Rattle.scope_tree.proofs.indexes.indexed_rows.IndexedRows.len.Goals as goal

pub returns : goal.returns
returns g c =
    let same = ap (λ (r : Numbered). length r.rows) c.self.view_is in
    omega (arith, same, c.len.ensures)
