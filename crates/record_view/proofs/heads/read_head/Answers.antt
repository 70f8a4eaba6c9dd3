use Rattle.row_view.proofs.Codecs.{read_passes}
use Rattle.row_view.proofs.RowCodecs.{head_field}
use Rattle.record_view.proofs.heads.read_head.Goals as goal

pub returns-clause-kept : goal.returns-clause-kept
returns-clause-kept c =
    read_passes (head_field c.args.layout) c.args.bytes.now _ _ c.read_head_fields.ensures
