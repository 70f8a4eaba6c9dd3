use Rattle.std.proofs.Common.{List, sym, ap, subst, refl}
use Rattle.run_model.specs.declared.tasks.Task.{Task}
use Rattle.task_group.specs.Sound.{work, AreKept}
use Rattle.task_group.proofs.Comings.{ended_comes}
use Rattle.task_group.proofs.Rooms.{room_stays}
use Rattle.task_group.proofs.groups.Groups.take_ended.Goals as goal

pub invariant_of-self : goal.invariant_of-self
invariant_of-self g c =
    let s = c.self.inside in
    let w = work s.layout s.groups.items s.tasks.items in
    let place = rw (← c.self.view_is) at c.requires.place in (
      subst
          (λ (l : List Task).
          AreKept (work s.layout s.groups.items l) s.counts.items c.push_none.new.next.items s.ready
          s.running c.note_retry.new.flags.items)
          (sym c.push_task.ensures.appended)
          (rw (c.push_none.ensures.pushed, c.note_retry.ensures.noted)
          (ended_comes w c.args.row s.counts.items s.next.items s.ready s.running
          s.retried.items c.requires.ended place.known place.room place.link
          c.self.invariant.0)),
      room_stays c.self.invariant.1 refl c.push_task.ensures.capacity refl
          c.push_none.ensures.capacity c.note_retry.ensures.capacity,
    )

pub push_none-requires : goal.push_none-requires
push_none-requires g c =
    rw (c.self.inside.next.ok.0, c.self.invariant.0.seated.as_tasks, c.self.invariant.1.next_room)
    (rw (← c.self.view_is) at c.requires.place).room

pub note_retry-requires-clause-room : goal.note_retry-requires-clause-room
note_retry-requires-clause-room g c =
    rw (c.self.inside.retried.ok.0, c.self.invariant.0.flagged.same, c.self.invariant.1.flag_room)
    (rw (← c.self.view_is) at c.requires.place).room

pub note_retry-requires-clause-known : goal.note_retry-requires-clause-known
note_retry-requires-clause-known g c =
    rw (c.self.inside.retried.ok.0, c.self.invariant.0.flagged.same)
    (rw (← c.self.view_is) at c.requires.place).link

pub push_task-requires : goal.push_task-requires
push_task-requires g c =
    rw (c.self.inside.tasks.ok.0, c.self.invariant.1.task_room)
    (rw (← c.self.view_is) at c.requires.place).room

pub returns : goal.returns
returns g c =
    let s = c.self.inside in
    rw (← c.self.view_is)
    (ap (λ (l : List Task). work s.layout s.groups.items l) c.push_task.ensures.appended)
