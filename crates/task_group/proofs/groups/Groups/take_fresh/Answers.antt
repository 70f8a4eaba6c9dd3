use Rattle.run_model.proofs.Common.{◌≡◌, ℕ, List, length, refl, sym, subst, arith, slice_get_read}
use Rattle.run_model.specs.declared.tasks.Task.{Task}
use Rattle.task_group.specs.Kept.{IsWithin}
use Rattle.task_group.specs.Sound.{work, AreKept}
use Rattle.task_group.proofs.Comings.{fresh_comes}
use Rattle.task_group.proofs.Rooms.{group_count_room, last_known, room_stays}
use Rattle.task_group.proofs.groups.Groups.take_fresh.Goals as goal

pub index-counts-requires : goal.index-counts-requires
index-counts-requires g c =
    rw (c.self.inside.counts.ok.0, c.self.invariant.0.seated.as_groups)
    (rw (← c.self.view_is) at c.requires.place).known

pub index-requires : goal.index-requires
index-requires g c =
    rw c.self.inside.groups.ok.0 (rw (← c.self.view_is) at c.requires.place).known

pub link-requires-clause-known : goal.link-requires-clause-known
link-requires-clause-known g c =
    let s = c.self.inside in
    let w = work s.layout s.groups.items s.tasks.items in
    let kept = c.self.invariant.0.seated in
    let place = rw (← c.self.view_is) at c.requires.place in
    let counts = c.index-counts.result.now in
    let row = slice_get_read s.counts.items (length s.counts.items) c.args.row.group counts refl
    (omega (arith, place.known, kept.as_groups)) c.index-counts.ensures in
    subst (λ (n : ℕ). IsWithin counts.first counts.last n) (sym kept.as_tasks)
    (last_known w c.args.row.group counts (kept.right c.args.row.group counts row))

pub link-requires-clause-room : goal.link-requires-clause-room
link-requires-clause-room g c =
    rw (c.self.inside.next.ok.0, c.self.invariant.0.seated.as_tasks, c.self.invariant.1.next_room)
    (rw (← c.self.view_is) at c.requires.place).room

pub enter-requires-clause-known : goal.enter-requires-clause-known
enter-requires-clause-known g c =
    rw (c.self.inside.counts.ok.0, c.self.invariant.0.seated.as_groups)
    (rw (← c.self.view_is) at c.requires.place).known

pub enter-requires-clause-room : goal.enter-requires-clause-room
enter-requires-clause-room g c row here =
    group_count_room c.self.invariant.0 (rw (← c.self.view_is) at c.requires.place) row here

pub note_retry-requires-clause-room : goal.note_retry-requires-clause-room
note_retry-requires-clause-room g c =
    rw (c.self.inside.retried.ok.0, c.self.invariant.0.flagged.same, c.self.invariant.1.flag_room)
    (rw (← c.self.view_is) at c.requires.place).room

pub note_retry-requires-clause-known : goal.note_retry-requires-clause-known
note_retry-requires-clause-known g c =
    rw (c.self.inside.retried.ok.0, c.self.invariant.0.flagged.same)
    (rw (← c.self.view_is) at c.requires.place).link

pub push_task-requires : goal.push_task-requires
push_task-requires g c =
    rw (c.self.inside.tasks.ok.0, c.self.invariant.1.task_room)
    (rw (← c.self.view_is) at c.requires.place).room

pub set-requires : goal.set-requires
set-requires g c =
    let place = rw (← c.self.view_is) at c.requires.place in
    omega (arith, place.room, c.self.invariant.0.queued.size)

pub invariant_of-self : goal.invariant_of-self
invariant_of-self g c =
    let s = c.self.inside in
    let w = work s.layout s.groups.items s.tasks.items in
    let n : c.len-n.result ≡ length s.tasks.items = omega arith in
    let place = rw (← c.self.view_is) at c.requires.place in
    let row = slice_get_read s.counts.items (length s.counts.items) c.args.row.group
    c.index-counts.result.now refl (omega (arith, place.known, c.self.invariant.0.seated.as_groups))
    c.index-counts.ensures in
    let group = slice_get_read s.groups.items (length s.groups.items) c.args.row.group
    c.index.result.now refl place.known c.index.ensures in (
      subst
          (λ (l : List Task).
          AreKept (work s.layout s.groups.items l) c.enter.new.counts.items c.link.new.next.items
          c.set.new.self s.running c.note_retry.new.flags.items)
          (sym c.push_task.ensures.appended)
          (rw (
            c.enter.ensures.entered,
            c.link.ensures.linked,
            c.set.ensures,
            c.note_retry.ensures.noted,
            n,
          )
          (fresh_comes w c.args.row s.counts.items s.next.items s.ready s.running s.retried.items
          c.index-counts.result.now c.index.result.now c.admits-admitted.result c.requires.fresh
          c.self.invariant.0 row group place.room place.link c.admits-admitted.ensures)),
      room_stays c.self.invariant.1 refl c.push_task.ensures.capacity c.enter.ensures.capacity
          c.link.ensures.capacity c.note_retry.ensures.capacity,
    )
