use Rattle.run_model.proofs.Common.{sym, slice_get_within}
use Rattle.task_group.proofs.Checks.{opens_missed, opens_found}
use Rattle.task_group.proofs.groups.Groups.check_open.Goals as goal

pub returns-in_default-clause-first : goal.returns-in_default-clause-first
returns-in_default-clause-first g c =
    opens_missed c.args.self.now c.args.group (sym c.in_default.ensures)

pub returns-then-row-clause-first : goal.returns-then-row-clause-first
returns-then-row-clause-first g c =
    opens_found c.args.self.now c.args.group c.in-Some.row.now _ (sym c.in-Some.ensures)
    c.if-row.true

pub returns-clause-first : goal.returns-clause-first
returns-clause-first g c =
    opens_found c.args.self.now c.args.group c.in-Some.row.now _ (sym c.in-Some.ensures)
    c.if-row.false

pub returns-clause-known : goal.returns-clause-known
returns-clause-known g c =
    slice_get_within c.args.self.now.groups c.args.group c.in-Some.row.now
    (sym c.in-Some.ensures)
