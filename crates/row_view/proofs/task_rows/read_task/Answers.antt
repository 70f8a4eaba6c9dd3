use Rattle.row_view.proofs.Codecs.{read_passes}
use Rattle.row_view.proofs.RowCodecs.{task_row}
use Rattle.row_view.proofs.task_rows.read_task.Goals as goal

pub returns-clause-kept : goal.returns-clause-kept
returns-clause-kept c =
    read_passes (task_row c.args.version) c.args.bytes.now _ _ c.read_task_fields.ensures.value
