use Rattle.run_model.proofs.Common.{◌+◌, List, Some, sym, ap, refl, subst, ◌∙◌, WorkState}
use Rattle.run_model.proofs.Common.{◌≡◌, true, and_parts, most_tasks, IsTrue}
use Rattle.run_model.specs.Texts.{IsName}
use borrow.Author.Count.{falls}
use Rattle.run_model.specs.declared.tasks.Task.{Task}
use Rattle.row_view.specs.declared.heads.ImageVersion.{ImageVersion}
use Rattle.row_view.specs.Image.{is_kept_stage, is_kept_task}
use Rattle.row_view.specs.RowReading.{task_at}
use Rattle.row_view.specs.RowViews.{task_of}
use Rattle.row_view.specs.WorkRows.{can_come}
use Rattle.task_group.proofs.ReadLoops.{ReadSoFar, read_all, read_first, read_next, read_no_row}
use Rattle.task_group.proofs.ReadLoops.{read_room, read_stray_row}
use Rattle.task_group.proofs.WorkLoops.{come_as}
use Rattle.task_group.proofs.groups.Groups.read_tasks.Goals as goal

-- What is known of the texts of a kept row.
record KeptParts (row : Task) : Type 0 where
  job : IsName row.job
  argument : IsName row.argument
  stage : IsTrue (is_kept_stage row.stage)

kept_parts : (version : ImageVersion) (row : Task) → is_kept_task version row ≡ true
    → KeptParts row
kept_parts version row kept =
    let before_link = (and_parts _ _ kept).0 in
    let before_stage = (and_parts _ _ before_link).0 in
    record {
      job = (and_parts _ _ (and_parts _ _ before_stage).0).1;
      argument = (and_parts _ _ before_stage).1;
      stage = (and_parts _ _ before_link).1;
    }

pub returns-then-not-can_come-clause-none : goal.returns-then-not-can_come-clause-none
returns-then-not-can_come-clause-none g c =
    let start = c.args.self.now in
    let row = c.task_copy-row.result in
    let behind = c.in-Some.behind.now in
    let read = sym c.in-Some.ensures.value
    ∙ ap (λ (r : Task). Some (r, behind)) (sym c.task_copy-row.ensures) in
    read_stray_row (task_at c.args.head.now.version) (can_come start.layout start.groups)
    c.args.head.now.tasks c.loop-n.n start.tasks c.loop-n.self.tasks c.args.bytes.now
    c.loop-n.rest.now behind row c.loop-n.invariant.rows c.loop-n-test.true read
    (come_as start c.loop-n.self row c.loop-n.invariant.layout c.loop-n.invariant.groups
    ∙ sym c.can_come.ensures ∙ c.if-not-can_come.true)

pub take_task-requires-clause-come : goal.take_task-requires-clause-come
take_task-requires-clause-come g c = sym c.can_come.ensures ∙ c.if-not-can_come.false

pub loop-n-preserved : goal.loop-n-preserved
loop-n-preserved g c =
    let start = c.args.self.now in
    let row = c.task_copy-row.result in
    let behind = c.in-Some.behind.now in
    let read = sym c.in-Some.ensures.value
    ∙ ap (λ (r : Task). Some (r, behind)) (sym c.task_copy-row.ensures) in
    let next = read_next (task_at c.args.head.now.version) (can_come start.layout start.groups)
    c.args.head.now.tasks c.loop-n.n start.tasks c.loop-n.self.tasks c.args.bytes.now
    c.loop-n.rest.now behind row c.loop-n.invariant.rows c.loop-n-test.true read
    (come_as start c.loop-n.self row c.loop-n.invariant.layout c.loop-n.invariant.groups
    ∙ sym c.can_come.ensures ∙ c.if-not-can_come.false) in
    record {
      rows =
          subst
          (λ (l : List Task).
          ReadSoFar (task_at c.args.head.now.version) (can_come start.layout start.groups)
          c.args.head.now.tasks (c.loop-n.n + 1) start.tasks l c.args.bytes.now behind)
          (sym (ap (λ (u : WorkState). u.tasks) c.take_task.ensures)) next;
      groups = ap (λ (u : WorkState). u.groups) c.take_task.ensures ∙ c.loop-n.invariant.groups;
      layout = ap (λ (u : WorkState). u.layout) c.take_task.ensures ∙ c.loop-n.invariant.layout;
    }

pub loop-n-init : goal.loop-n-init
loop-n-init g c =
    let start = c.args.self.now in
    record {
      rows =
          read_first (task_at c.args.head.now.version) (can_come start.layout start.groups)
          c.args.head.now.tasks start.tasks c.args.bytes.now;
      groups = refl;
      layout = refl;
    }

pub returns-in_default-clause-read : goal.returns-in_default-clause-read
returns-in_default-clause-read g c = tt

pub returns-in_default-clause-none : goal.returns-in_default-clause-none
returns-in_default-clause-none g c =
    let start = c.args.self.now in
    read_no_row (task_at c.args.head.now.version) (can_come start.layout start.groups)
    c.args.head.now.tasks c.loop-n.n start.tasks c.loop-n.self.tasks c.args.bytes.now
    c.loop-n.rest.now c.loop-n.invariant.rows c.loop-n-test.true
    (sym c.in_default.ensures.value)

pub returns-in_default-clause-groups : goal.returns-in_default-clause-groups
returns-in_default-clause-groups g c = c.loop-n.invariant.groups

pub returns-in_default-clause-layout : goal.returns-in_default-clause-layout
returns-in_default-clause-layout g c = c.loop-n.invariant.layout

pub task_copy-row-requires-clause-job : goal.task_copy-row-requires-clause-job
task_copy-row-requires-clause-job g c =
    (kept_parts c.args.head.now.version (task_of c.in-Some.view) c.in-Some.ensures.kept).job

pub task_copy-row-requires-clause-argument : goal.task_copy-row-requires-clause-argument
task_copy-row-requires-clause-argument g c =
    (kept_parts c.args.head.now.version (task_of c.in-Some.view) c.in-Some.ensures.kept).argument

pub task_copy-row-requires-clause-stage : goal.task_copy-row-requires-clause-stage
task_copy-row-requires-clause-stage g c =
    (kept_parts c.args.head.now.version (task_of c.in-Some.view) c.in-Some.ensures.kept).stage

pub returns-then-not-can_come-clause-read : goal.returns-then-not-can_come-clause-read
returns-then-not-can_come-clause-read g c = tt

pub returns-then-not-can_come-clause-groups : goal.returns-then-not-can_come-clause-groups
returns-then-not-can_come-clause-groups g c = c.loop-n.invariant.groups

pub returns-then-not-can_come-clause-layout : goal.returns-then-not-can_come-clause-layout
returns-then-not-can_come-clause-layout g c = c.loop-n.invariant.layout

pub take_task-requires-clause-room : goal.take_task-requires-clause-room
take_task-requires-clause-room g c =
    let start = c.args.self.now in
    rw c.loop-n.invariant.layout
    (read_room (task_at c.args.head.now.version) (can_come start.layout start.groups)
    (most_tasks start.layout) c.args.head.now.tasks c.loop-n.n start.tasks c.loop-n.self.tasks
    c.args.bytes.now c.loop-n.rest.now c.loop-n.invariant.rows c.loop-n-test.true
    c.requires.room)

pub loop-n-smaller : goal.loop-n-smaller
loop-n-smaller g c = falls c.args.head.now.tasks c.loop-n.n c.loop-n-test.true

pub returns-clause-read : goal.returns-clause-read
returns-clause-read g c =
    let start = c.args.self.now in
    read_all (task_at c.args.head.now.version) (can_come start.layout start.groups)
    c.args.head.now.tasks c.loop-n.n start.tasks c.loop-n.self.tasks c.args.bytes.now
    c.loop-n.rest.now c.loop-n.invariant.rows c.loop-n-test.false

pub returns-clause-none : goal.returns-clause-none
returns-clause-none g c = tt

pub returns-clause-groups : goal.returns-clause-groups
returns-clause-groups g c = c.loop-n.invariant.groups

pub returns-clause-layout : goal.returns-clause-layout
returns-clause-layout g c = c.loop-n.invariant.layout
