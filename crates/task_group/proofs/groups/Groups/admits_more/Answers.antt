use Rattle.run_model.proofs.Common.{length, refl, sym, arith, slice_get_read}
use Rattle.task_group.specs.Sound.{work}
use Rattle.task_group.proofs.Rooms.{lets_in}
use Rattle.task_group.proofs.groups.Groups.admits_more.Goals as goal

pub returns : goal.returns
returns g c =
    let s = c.self.inside in
    let w = work s.layout s.groups.items s.tasks.items in
    let kept = c.self.invariant.0.seated in
    let known = rw (← c.self.view_is) at c.requires in
    let size = kept.as_groups in
    let counts = slice_get_read s.counts.items (length s.counts.items) c.args.group
    c.index-2.result.now refl (omega (arith, known, size)) c.index-2.ensures in
    let right = kept.right c.args.group c.index-2.result.now counts in
    let row = slice_get_read s.groups.items (length s.groups.items) c.args.group
    c.index.result.now refl known c.index.ensures in
    rw (← c.self.view_is)
    (sym
    (lets_in w c.args.group c.index-2.result.now c.index.result.now c.admits.result right row
    c.admits.ensures))
