use Rattle.std.proofs.Common.{List, sym, subst, refl}
use Rattle.run_model.specs.declared.groups.Group.{Group}
use Rattle.task_group.specs.Sound.{work, AreKept}
use Rattle.task_group.proofs.Keeping.{make_keeps}
use Rattle.task_group.proofs.Rooms.{room_stays}
use Rattle.task_group.proofs.groups.Groups.take_group.Goals as goal

pub invariant_of-self : goal.invariant_of-self
invariant_of-self g c =
    let s = c.self.inside in
    let w = work s.layout s.groups.items s.tasks.items in
    let room = rw (← c.self.view_is) at c.requires in (
      subst
          (λ (l : List Group).
          AreKept (work s.layout l s.tasks.items) c.push_counts.new.counts.items s.next.items
          s.ready
          s.running s.retried.items)
          (sym c.push_group.ensures.appended)
          (rw c.push_counts.ensures.pushed
          (make_keeps w c.args.row s.counts.items s.next.items s.ready s.running s.retried.items
          room c.self.invariant.0)),
      room_stays c.self.invariant.1 c.push_group.ensures.capacity refl
          c.push_counts.ensures.capacity
          refl refl,
    )
