use Rattle.row_view.proofs.RowFields.{scope_row}
use Rattle.row_view.proofs.RowCodecs.{group_row, task_row, head_field}
use Rattle.record_view.proofs.images.read_rows_are_written.Goals as goal

pub returns : goal.returns
returns c = record {
  head = λ layout head bytes rest e.
      let taken = (head_field layout).takes bytes (head, rest) e in
      (taken.tested, taken.spelled);
  scope = λ row bytes rest e.
      let taken = scope_row.takes bytes (row, rest) e in
      (taken.tested, taken.spelled);
  group = λ row bytes rest e.
      let taken = group_row.takes bytes (row, rest) e in
      (taken.tested, taken.spelled);
  task = λ version row bytes rest e.
      let taken = (task_row version).takes bytes (row, rest) e in
      (taken.tested, taken.spelled);
}
