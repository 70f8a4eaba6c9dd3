use Rattle.run_model.proofs.Common.{◌≡◌, ◌<◌, ℕ, true, ◌&&◌, not, Option, Some, length, get_or}
use Rattle.run_model.proofs.Common.{slice_get, refl, ap, subst, sym, ◌∙◌, option_map_or, and_parts}
use Rattle.run_model.proofs.Common.{ltb-true, slice_get_read, has_room, is_open, most_tasks}
use Rattle.run_model.proofs.Common.{WorkState, group_of_task, has_stage, is_interrupted}
use Rattle.run_model.proofs.Common.{is_retried}
use Rattle.run_model.specs.declared.tasks.Task.{Task}
use Rattle.task_group.specs.Admitting.{phase_new}
use Rattle.task_group.specs.Sound.{work}
use Rattle.task_group.proofs.RowReads.{row_known}
use Rattle.task_group.proofs.groups.Groups.retry.Goals as goal

task_known : (w : WorkState) (n : ℕ) → has_stage is_interrupted w n ≡ true → n < length w.tasks
task_known w n is = row_known (λ (task : Task). is_interrupted task.stage) w.tasks n is

-- What was accepted of the task and of its group.
record Accepted (w : WorkState) (n : ℕ) : Type 0 where
  known : n < length w.tasks
  unwaited : is_open w (group_of_task w n) ≡ true
  room : length w.tasks < most_tasks w.layout

accepted : (w : WorkState) (n : ℕ) → (has_stage is_interrupted w n && not (is_retried w n)
    && is_open w (group_of_task w n) && has_room (most_tasks w.layout) w.tasks) ≡ true
    → Accepted w n
accepted w n all =
    let room = and_parts _ _ all in
    let open_too = and_parts _ _ room.0 in
    record {
      known = task_known w n (and_parts _ _ open_too.0).0;
      unwaited = open_too.1;
      room = ltb-true (length w.tasks) (most_tasks w.layout) room.1;
    }

-- The row of the task that is retried.
row_is : (w : WorkState) (n : ℕ) (row : Task) → n < length w.tasks → row ≡ get_or w.tasks n row
    → slice_get w.tasks n ≡ Some row
row_is w n row known read = slice_get_read w.tasks (length w.tasks) n row refl known read

group_is : (w : WorkState) (n : ℕ) (row : Task) → slice_get w.tasks n ≡ Some row
    → group_of_task w n ≡ row.group
group_is w n row found =
    ap (λ (o : Option Task). option_map_or (λ task. task.group) o (length w.groups)) found

pub index-row-requires : goal.index-row-requires
index-row-requires g c =
    let s = c.self.inside in
    rw s.tasks.ok.0
    (accepted (work s.layout s.groups.items s.tasks.items) c.args.task
    (rw (← c.self.view_is) at c.requires.accepted)).known

pub submit-requires-clause-open : goal.submit-requires-clause-open
submit-requires-clause-open g c =
    let s = c.self.inside in
    let w = work s.layout s.groups.items s.tasks.items in
    let row = c.index-row.result.now in
    let fine = accepted w c.args.task (rw (← c.self.view_is) at c.requires.accepted) in
    rw (← c.self.view_is)
    (subst (λ (k : ℕ). is_open w k ≡ true)
    (group_is w c.args.task row (row_is w c.args.task row fine.known c.index-row.ensures))
    fine.unwaited)

pub submit-requires-clause-room : goal.submit-requires-clause-room
submit-requires-clause-room g c =
    (accepted c.args.self.now c.args.task c.requires.accepted).room

pub submit-requires-clause-known : goal.submit-requires-clause-known
submit-requires-clause-known g c =
    (accepted c.args.self.now c.args.task c.requires.accepted).known

pub returns-clause-number : goal.returns-clause-number
returns-clause-number g c = c.submit.ensures.number

pub returns-clause-after : goal.returns-clause-after
returns-clause-after g c =
    let s = c.self.inside in
    let w = work s.layout s.groups.items s.tasks.items in
    let row = c.index-row.result.now in
    let fine = accepted w c.args.task (rw (← c.self.view_is) at c.requires.accepted) in
    let found = row_is w c.args.task row fine.known c.index-row.ensures in
    c.submit.ensures.after
    ∙ rw (← c.self.view_is, c.copy-job.ensures, c.copy-argument.ensures, found) refl

pub returns-clause-phase : goal.returns-clause-phase
returns-clause-phase g c =
    let s = c.self.inside in
    let w = work s.layout s.groups.items s.tasks.items in
    let row = c.index-row.result.now in
    let fine = accepted w c.args.task (rw (← c.self.view_is) at c.requires.accepted) in
    let found = row_is w c.args.task row fine.known c.index-row.ensures in
    c.submit.ensures.phase
    ∙ rw (← c.self.view_is)
    (ap (λ (k : ℕ). Some (phase_new w k)) (sym (group_is w c.args.task row found)))

pub returns-clause-stays : goal.returns-clause-stays
returns-clause-stays g c = c.submit.ensures.stays
