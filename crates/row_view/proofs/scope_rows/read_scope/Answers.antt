use Rattle.row_view.proofs.Codecs.{read_passes}
use Rattle.row_view.proofs.RowFields.{scope_row}
use Rattle.row_view.proofs.scope_rows.read_scope.Goals as goal

pub returns-clause-kept : goal.returns-clause-kept
returns-clause-kept c =
    read_passes scope_row c.args.bytes.now _ _ c.read_scope_fields.ensures.value
