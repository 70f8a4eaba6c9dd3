use Rattle.row_view.proofs.WorkReads.{work_again, work_takes}
use Rattle.record_view.proofs.works.the_rows_of_the_work_are_read.Goals as goal

pub returns : goal.returns
returns c = record {
  again = λ layout head bytes rest w are. work_again layout head bytes w rest are;
  takes = λ layout head bytes rest w e. work_takes layout head bytes w rest e;
}
