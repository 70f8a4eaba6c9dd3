use Rattle.run_model.proofs.Common.{◌≡◌, ◌+◌, true, false, List, Some, sym, ap, subst, ◌∙◌, refl}
use Rattle.run_model.proofs.Common.{is_none, WorkState}
use Rattle.run_model.specs.declared.bounds.TheConstants.{MOST_GROUPS}
use Rattle.run_model.specs.declared.groups.Group.{Group}
use Rattle.row_view.specs.RowReading.{group_row_at}
use Rattle.row_view.specs.RowViews.{group_of}
use Rattle.row_view.specs.WorkRows.{has_new_name}
use Rattle.task_group.proofs.ReadLoops.{ReadSoFar, read_all, read_first, read_next, read_no_row}
use Rattle.task_group.proofs.ReadLoops.{read_room, read_stray_row}
use Rattle.task_group.proofs.Settling.{is_new, is_old}
use borrow.Author.Count.{falls}
use Rattle.task_group.proofs.groups.Groups.read_groups.Goals as goal

pub loop-n-preserved : goal.loop-n-preserved
loop-n-preserved g c =
    let row = c.group_copy.result in
    let rows = c.loop-n.self.groups in
    let behind = c.in-Some.behind.now in
    let read = sym c.in-Some.ensures.value
    ∙ ap (λ (r : Group). Some (r, behind)) (sym c.group_copy.ensures) in
    let fresh : has_new_name rows row ≡ true =
    ap (has_new_name rows) c.group_copy.ensures ∙ ap is_none (sym c.find.ensures)
    ∙ is_new c.find.result (sym c.is_some.ensures ∙ c.if-is_some.false) in
    let next = read_next group_row_at has_new_name c.args.many c.loop-n.n c.args.self.now.groups
    rows c.args.bytes.now c.loop-n.rest.now behind row c.loop-n.invariant.rows c.loop-n-test.true
    read fresh in
    record {
      rows =
          subst
          (λ (l : List Group).
          ReadSoFar group_row_at has_new_name c.args.many (c.loop-n.n + 1) c.args.self.now.groups l
          c.args.bytes.now behind)
          (sym (ap (λ (u : WorkState). u.groups) c.take_group.ensures)) next;
      tasks = ap (λ (u : WorkState). u.tasks) c.take_group.ensures ∙ c.loop-n.invariant.tasks;
      layout = ap (λ (u : WorkState). u.layout) c.take_group.ensures ∙ c.loop-n.invariant.layout;
    }

pub loop-n-init : goal.loop-n-init
loop-n-init g c = record {
  rows = read_first group_row_at has_new_name c.args.many c.args.self.now.groups c.args.bytes.now;
  tasks = refl;
  layout = refl;
}

pub returns-in_default-clause-read : goal.returns-in_default-clause-read
returns-in_default-clause-read g c = tt

pub returns-in_default-clause-none : goal.returns-in_default-clause-none
returns-in_default-clause-none g c =
    read_no_row group_row_at has_new_name c.args.many c.loop-n.n c.args.self.now.groups
    c.loop-n.self.groups c.args.bytes.now c.loop-n.rest.now c.loop-n.invariant.rows
    c.loop-n-test.true (sym c.in_default.ensures.value)

pub returns-in_default-clause-tasks : goal.returns-in_default-clause-tasks
returns-in_default-clause-tasks g c = c.loop-n.invariant.tasks

pub returns-in_default-clause-layout : goal.returns-in_default-clause-layout
returns-in_default-clause-layout g c = c.loop-n.invariant.layout

pub returns-then-is_some-clause-read : goal.returns-then-is_some-clause-read
returns-then-is_some-clause-read g c = tt

pub returns-then-is_some-clause-none : goal.returns-then-is_some-clause-none
returns-then-is_some-clause-none g c =
    let row = group_of c.in-Some.view in
    let rows = c.loop-n.self.groups in
    let old : has_new_name rows row ≡ false =
    ap is_none (sym c.find.ensures)
    ∙ is_old c.find.result (sym c.is_some.ensures ∙ c.if-is_some.true) in
    read_stray_row group_row_at has_new_name c.args.many c.loop-n.n c.args.self.now.groups
    rows c.args.bytes.now c.loop-n.rest.now c.in-Some.behind.now row c.loop-n.invariant.rows
    c.loop-n-test.true (sym c.in-Some.ensures.value) old

pub returns-then-is_some-clause-tasks : goal.returns-then-is_some-clause-tasks
returns-then-is_some-clause-tasks g c = c.loop-n.invariant.tasks

pub returns-then-is_some-clause-layout : goal.returns-then-is_some-clause-layout
returns-then-is_some-clause-layout g c = c.loop-n.invariant.layout

pub group_copy-requires : goal.group_copy-requires
group_copy-requires g c = c.in-Some.ensures.kept

pub take_group-requires : goal.take_group-requires
take_group-requires g c =
    read_room group_row_at has_new_name MOST_GROUPS c.args.many c.loop-n.n c.args.self.now.groups
    c.loop-n.self.groups c.args.bytes.now c.loop-n.rest.now c.loop-n.invariant.rows
    c.loop-n-test.true c.requires.room

pub loop-n-smaller : goal.loop-n-smaller
loop-n-smaller g c = falls c.args.many c.loop-n.n c.loop-n-test.true

pub returns-clause-read : goal.returns-clause-read
returns-clause-read g c =
    read_all group_row_at has_new_name c.args.many c.loop-n.n c.args.self.now.groups
    c.loop-n.self.groups c.args.bytes.now c.loop-n.rest.now c.loop-n.invariant.rows
    c.loop-n-test.false

pub returns-clause-none : goal.returns-clause-none
returns-clause-none g c = tt

pub returns-clause-tasks : goal.returns-clause-tasks
returns-clause-tasks g c = c.loop-n.invariant.tasks

pub returns-clause-layout : goal.returns-clause-layout
returns-clause-layout g c = c.loop-n.invariant.layout
