use Rattle.run_model.proofs.Common.{true, false, sym, refl, ◌∙◌}
use Rattle.row_view.specs.WorkRows.{is_linked}
use Rattle.task_group.proofs.WorkLoops.{come_apart, come_by, group_count_of}
use Rattle.task_group.proofs.groups.Groups.can_come.Goals.{else-is_running-via-else-is_running}
use Rattle.task_group.proofs.groups.Groups.can_come.Goals.{
  else-is_running-via-then-is_running+else-not-admits_more,
}
use Rattle.task_group.proofs.groups.Groups.can_come.Goals as goal

pub returns-then-group_count-row : goal.returns-then-group_count-row
returns-then-group_count-row g c =
    come_apart c.args.self.now c.args.row.now
    (rw c.group_count.ensures.len at c.if-group_count-row.true)

pub admits_more-requires : goal.admits_more-requires
admits_more-requires g c = rw (← c.group_count.ensures.len) c.if-group_count-row.false

pub returns-then-not-admits_more : goal.returns-then-not-admits_more
returns-then-not-admits_more g c =
    let w = c.args.self.now in
    let row = c.args.row.now in
    come_by w row false (is_linked w.tasks row)
    (rw c.group_count.ensures.len at c.if-group_count-row.false)
    (group_count_of w row false (sym c.is_running.ensures ∙ c.if-is_running.true)
    (sym c.admits_more.ensures ∙ c.if-not-admits_more.true)) refl

pub returns : goal.returns
returns g c =
    let w = c.args.self.now in
    let row = c.args.row.now in
    come_by w row true c.is_linked.result
    (rw c.group_count.ensures.len at c.if-group_count-row.false)
    (elim c.else-is_running.branch [
      | else-is_running-via-then-is_running+else-not-admits_more v ↦
          group_count_of w row true (sym c.is_running.ensures ∙ v.if-is_running.true)
          (sym v.admits_more.ensures ∙ v.if-not-admits_more.false)
      | else-is_running-via-else-is_running v ↦
          rw (sym c.is_running.ensures ∙ v.if-is_running.false) refl
    ])
    c.is_linked.ensures
