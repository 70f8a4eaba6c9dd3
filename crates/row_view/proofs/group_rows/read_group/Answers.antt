use Rattle.row_view.proofs.Codecs.{read_passes}
use Rattle.row_view.proofs.RowCodecs.{group_row}
use Rattle.row_view.proofs.group_rows.read_group.Goals as goal

pub returns-clause-kept : goal.returns-clause-kept
returns-clause-kept c =
    read_passes group_row c.args.bytes.now _ _ c.read_group_fields.ensures.value
