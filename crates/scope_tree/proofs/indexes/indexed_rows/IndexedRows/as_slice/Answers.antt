use Rattle.run_model.proofs.Common.{ap, ◌∙◌}
use Rattle.scope_tree.specs.IndexedRows.{Numbered}
use Rattle.scope_tree.proofs.indexes.indexed_rows.IndexedRows.as_slice.Goals as goal

pub returns : goal.returns
returns g c = c.as_slice.ensures.value ∙ ap (λ (r : Numbered). r.rows) c.self.view_is
