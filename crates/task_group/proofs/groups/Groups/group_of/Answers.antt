use Rattle.run_model.proofs.Common.{length, refl, sym, ap, Option, option_map_or, slice_get_read}
use Rattle.run_model.specs.declared.tasks.Task.{Task}
use Rattle.task_group.proofs.groups.Groups.group_of.Goals as goal

pub index-requires : goal.index-requires
index-requires g c =
    let known = rw (← c.self.view_is) at c.requires in rw c.self.inside.tasks.ok.0 known

pub returns-clause-known : goal.returns-clause-known
returns-clause-known g c =
    let s = c.self.inside in
    let known = rw (← c.self.view_is) at c.requires in
    let found = slice_get_read s.tasks.items (length s.tasks.items) c.args.task c.index.result.now
    refl known c.index.ensures in
    rw (← c.self.view_is)
    (c.self.invariant.0.seated.sound.grouped c.args.task c.index.result.now found)

pub returns-clause-group : goal.returns-clause-group
returns-clause-group g c =
    let s = c.self.inside in
    let known = rw (← c.self.view_is) at c.requires in
    let found = slice_get_read s.tasks.items (length s.tasks.items) c.args.task c.index.result.now
    refl known c.index.ensures in
    rw (← c.self.view_is)
    (sym
    (ap (λ (o : Option Task). option_map_or (λ task. task.group) o (length s.groups.items)) found))
