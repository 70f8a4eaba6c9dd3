use Rattle.run_model.proofs.Common.{ap, not, ◌∙◌, arith, with_error}
use Rattle.task_group.proofs.RowWrites.{at_row_set, error_given, error_kept}
use Rattle.task_group.proofs.work_rows.fail.Goals as goal

pub returns-then-is_none-clause-failed : goal.returns-then-is_none-clause-failed
returns-then-is_none-clause-failed g c =
    at_row_set (with_error c.args.text.now) c.args.groups.now.items c.args.g
    c.index_mut-row.result.now _ c.index_mut-row.ensures.value (omega arith)
    (rw c.text_copy.ensures
    (error_given c.index_mut-row.result.now c.args.text.now (c.is_none.ensures
    ∙ ap not c.if-is_none.true)))

pub returns-else-is_none-clause-failed : goal.returns-else-is_none-clause-failed
returns-else-is_none-clause-failed g c =
    at_row_set (with_error c.args.text.now) c.args.groups.now.items c.args.g
    c.index_mut-row.result.now _ c.index_mut-row.ensures.value (omega arith)
    (error_kept c.index_mut-row.result.now c.args.text.now (c.is_none.ensures
    ∙ ap not c.if-is_none.false))
