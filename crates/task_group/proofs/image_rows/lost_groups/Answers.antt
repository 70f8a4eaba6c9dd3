use Rattle.run_model.proofs.Common.{◌+◌, Some, ap, sym, subst, ◌∙◌, arith, slice_get-get_or}
use Rattle.task_group.proofs.LostGroups.{AreLost, lost_first, lost_same, lost_more, lost_all}
use Rattle.task_group.proofs.image_rows.lost_groups.Goals.{then-is_error, else-is_error}
use Rattle.task_group.proofs.image_rows.lost_groups.Goals as goal

pub loop-task-init : goal.loop-task-init
loop-task-init c = lost_first c.args.tasks.now

pub loop-task-preserved : goal.loop-task-preserved
loop-task-preserved c =
    let tasks = c.args.tasks.now in
    let k = c.loop-task.task-index in
    let so = c.loop-task.invariant in
    let row = c.task-item.result in
    let less = c.loop-task-test.true in
    elim c.if-is_error.branch [
      | then-is_error w ↦
          let found = slice_get-get_or tasks k row less ∙ ap Some (sym c.task-item.is) in
          let known = c.requires k row found in
          let size = so.size in
          subst (AreLost tasks (k + 1)) (sym w.lost-is)
          (lost_more tasks k c.loop-task.lost row so less c.task-item.is
          (sym c.is_error.ensures ∙ w.if-is_error.true) (omega (arith, known, size)))
      | else-is_error w ↦
          subst (AreLost tasks (k + 1)) (sym w.lost-is)
          (lost_same tasks k c.loop-task.lost row so less c.task-item.is
          (sym c.is_error.ensures ∙ w.if-is_error.false))
    ]

pub returns : goal.returns
returns c =
    lost_all c.args.tasks.now c.loop-task.task-index c.loop-task.lost c.loop-task.invariant
    c.loop-task-test.false
