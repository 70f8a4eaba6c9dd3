use Rattle.run_model.proofs.Common.{[], sym, ◌∙◌, true, false, refl, slice_get_within, lt-ltb}
use Rattle.task_group.proofs.Checks.{retry_found, row_missed}
use Rattle.task_group.proofs.groups.Groups.check_retry.Goals as goal

pub returns-in_default : goal.returns-in_default
returns-in_default g c count tree =
    rw (row_missed c.args.self.now.tasks c.args.task (sym c.in_default.ensures)) refl

pub returns-then-not-is_interrupted : goal.returns-then-not-is_interrupted
returns-then-not-is_interrupted g c count tree =
    let found = retry_found c.args.self.now c.args.task c.in-Some.row.now false
    (sym c.in-Some.ensures) (sym c.if-not-is_interrupted.true ∙ c.is_interrupted.ensures) in
    rw (found.0, found.1) refl

pub is_retried-requires : goal.is_retried-requires
is_retried-requires g c =
    slice_get_within c.args.self.now.tasks c.args.task c.in-Some.row.now (sym c.in-Some.ensures)

pub returns-then-is_retried : goal.returns-then-is_retried
returns-then-is_retried g c count tree =
    let found = retry_found c.args.self.now c.args.task c.in-Some.row.now true
    (sym c.in-Some.ensures) (sym c.if-not-is_interrupted.false ∙ c.is_interrupted.ensures) in
    rw (found.0, found.1, ← c.is_retried.ensures, c.if-is_retried.true) refl

pub group_of-requires : goal.group_of-requires
group_of-requires g c =
    slice_get_within c.args.self.now.tasks c.args.task c.in-Some.row.now (sym c.in-Some.ensures)

pub returns : goal.returns
returns g c count tree =
    let found = retry_found c.args.self.now c.args.task c.in-Some.row.now true
    (sym c.in-Some.ensures) (sym c.if-not-is_interrupted.false ∙ c.is_interrupted.ensures) in
    let group = lt-ltb _ _ c.group_of.ensures.known in
    rw (found.0, found.1, ← c.is_retried.ensures, c.if-is_retried.false, ← c.group_of.ensures.group)
    (rw group at c.check_go.ensures [] [] count tree)
