use Rattle.row_view.proofs.RowFields.{scope_row}
use Rattle.row_view.proofs.RowCodecs.{group_row, task_row, head_field}
use Rattle.record_view.proofs.images.written_rows_are_read.Goals as goal

pub returns : goal.returns
returns c = record {
  head = λ layout head rest ok. (head_field layout).again head rest ok;
  scope = scope_row.again;
  group = group_row.again;
  task = λ version row rest ok. (task_row version).again row rest ok;
}
