use Rattle.run_model.proofs.Common.{◌<◌, length, refl, sym, ap, ◌∙◌, slice_get_read}
use Rattle.task_group.specs.Cancels.{is_first_error}
use Rattle.task_group.proofs.work_rows.end_in_group.Goals as goal

pub fail-requires-clause-text : goal.fail-requires-clause-text
fail-requires-clause-text g c = rw c.in-Some.is at c.requires.error

pub returns-in-None-clause-brings_first_error : goal.returns-in-None-clause-brings_first_error
returns-in-None-clause-brings_first_error g c = rw c.in-None.is refl

pub returns-in-None-clause-failed : goal.returns-in-None-clause-failed
returns-in-None-clause-failed g c = rw c.in-None.is refl

pub returns-in-Some-clause-brings_first_error : goal.returns-in-Some-clause-brings_first_error
returns-in-Some-clause-brings_first_error g c =
    let rows = c.args.groups.now.items in
    let known : c.args.g < length rows = rw (← c.args.groups.now.ok.0) c.requires.known in
    rw c.in-Some.is
    (c.is_first-first.ensures
    ∙ sym
    (ap is_first_error
    (slice_get_read rows (length rows) c.args.g c.index.result.now refl known c.index.ensures)))

pub returns-in-Some-clause-failed : goal.returns-in-Some-clause-failed
returns-in-Some-clause-failed g c = rw c.in-Some.is c.fail.ensures.failed
