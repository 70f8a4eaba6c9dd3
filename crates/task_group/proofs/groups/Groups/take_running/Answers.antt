use Rattle.std.proofs.Common.{◌≡◌, ◌+◌, List, length, refl, sym, ap, subst, arith}
use Rattle.run_model.proofs.Common.{most_tasks_most}
use Rattle.run_model.specs.declared.tasks.Task.{Task}
use Rattle.task_group.specs.Sound.{work, AreKept}
use Rattle.task_group.proofs.Comings.{running_comes}
use Rattle.task_group.proofs.Rooms.{running_few, group_count_room, room_stays}
use Rattle.task_group.proofs.groups.Groups.take_running.Goals as goal

pub push_none-requires : goal.push_none-requires
push_none-requires g c =
    rw (c.self.inside.next.ok.0, c.self.invariant.0.seated.as_tasks, c.self.invariant.1.next_room)
    (rw (← c.self.view_is) at c.requires.place).room

pub enter-requires-clause-known : goal.enter-requires-clause-known
enter-requires-clause-known g c =
    rw (c.self.inside.counts.ok.0, c.self.invariant.0.seated.as_groups)
    (rw (← c.self.view_is) at c.requires.place).known

pub enter-requires-clause-room : goal.enter-requires-clause-room
enter-requires-clause-room g c row here =
    group_count_room c.self.invariant.0 (rw (← c.self.view_is) at c.requires.place) row here

pub note_retry-requires-clause-room : goal.note_retry-requires-clause-room
note_retry-requires-clause-room g c =
    rw (c.self.inside.retried.ok.0, c.self.invariant.0.flagged.same, c.self.invariant.1.flag_room)
    (rw (← c.self.view_is) at c.requires.place).room

pub note_retry-requires-clause-known : goal.note_retry-requires-clause-known
note_retry-requires-clause-known g c =
    rw (c.self.inside.retried.ok.0, c.self.invariant.0.flagged.same)
    (rw (← c.self.view_is) at c.requires.place).link

pub push_task-requires : goal.push_task-requires
push_task-requires g c =
    rw (c.self.inside.tasks.ok.0, c.self.invariant.1.task_room)
    (rw (← c.self.view_is) at c.requires.place).room

pub invariant_of-self : goal.invariant_of-self
invariant_of-self g c =
    let s = c.self.inside in
    let w = work s.layout s.groups.items s.tasks.items in
    let n : c.len-n.result ≡ length s.tasks.items = omega arith in
    let place = rw (← c.self.view_is) at c.requires.place in (
      subst
          (λ (l : List Task).
          AreKept (work s.layout s.groups.items l) c.enter.new.counts.items
          c.push_none.new.next.items s.ready (s.running + 1) c.note_retry.new.flags.items)
          (sym c.push_task.ensures.appended)
          (rw (
            c.enter.ensures.entered,
            c.push_none.ensures.pushed,
            c.note_retry.ensures.noted,
            n,
          )
          (running_comes w c.args.row s.counts.items s.next.items s.ready s.running
          s.retried.items c.requires.running (rw (← c.self.view_is) at c.requires.admitted)
          place.known place.room place.link c.self.invariant.0)),
      room_stays c.self.invariant.1 refl c.push_task.ensures.capacity c.enter.ensures.capacity
          c.push_none.ensures.capacity c.note_retry.ensures.capacity,
    )

pub overflow_cast-n : goal.overflow_cast-n
overflow_cast-n g c =
    let s = c.self.inside in
    let place = rw (← c.self.view_is) at c.requires.place in
    omega (arith, c.len-n.ensures, s.tasks.ok.0, place.room, most_tasks_most s.layout)

pub overflow_add-self : goal.overflow_add-self
overflow_add-self g c =
    omega (arith, running_few c.self.invariant.0, most_tasks_most c.self.inside.layout)

pub returns : goal.returns
returns g c =
    let s = c.self.inside in
    rw (← c.self.view_is)
    (ap (λ (l : List Task). work s.layout s.groups.items l) c.push_task.ensures.appended)
