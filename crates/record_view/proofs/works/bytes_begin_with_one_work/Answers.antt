use Rattle.row_view.proofs.WorkReads.{one_work}
use Rattle.record_view.proofs.works.bytes_begin_with_one_work.Goals as goal

pub returns : goal.returns
returns c = λ layout head bytes w v rest other are those.
    one_work layout head bytes w v rest other are those
