use Rattle.run_model.proofs.Common.{sym, refl, slice_get_within}
use Rattle.task_group.proofs.groups.Groups.result.Goals as goal

pub returns-in_default : goal.returns-in_default
returns-in_default g c count tree = rw (← c.in_default.ensures) refl

pub unfinished-requires : goal.unfinished-requires
unfinished-requires g c =
    slice_get_within c.args.self.now.groups c.args.group c.in-Some.row.now
    (sym c.in-Some.ensures)

pub returns : goal.returns
returns g c count tree =
    rw (← c.in-Some.ensures, c.group_look.ensures, c.unfinished.ensures) refl
