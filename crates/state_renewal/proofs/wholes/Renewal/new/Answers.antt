use Rattle.run_model.proofs.Common.{◌≡◌, ℕ, Bool, length, sym, ap, subst, ◌∙◌}
use Rattle.std.proofs.Common.{Vec}
use Rattle.run_model.proofs.Common.{AreOrdered, TreeState, WorkState, IfOk-from_err, arith}
use Rattle.std.proofs.lemmas.Result.{IfOk-weaker}
use Rattle.state_renewal.specs.Marks.{AreFlags, group_stays_at, is_flagged, task_stays_at}
use Rattle.state_renewal.specs.Marks.{with_rows}
use Rattle.state_renewal.specs.Renewed.{keeps_scope}
use Rattle.state_renewal.proofs.Renewing.{groups_known, marks_made, no_memory, of_marks}
use Rattle.state_renewal.proofs.Renewing.{scopes_known}
use Rattle.state_renewal.proofs.wholes.Renewal.new.Goals as goal

pub returns-clause-marks : goal.returns-clause-marks
returns-clause-marks g c =
    let tree = c.tree.result.now in
    let w = c.groups.result.now in
    let v = c.groups-2.result.now in
    let u = c.groups-3.result.now in
    let items = λ (v : Vec Bool _). v.items in
    let s = c.flag_scopes in
    let scopes = c.in_ok-scopes in
    let groups = c.in_ok-groups in
    let tasks = c.in_ok-tasks in
    marks_made c.args.state.now tree w v u scopes.scopes c.flags.result.now groups.groups
    c.flags-2.result.now tasks.tasks c.tree.ensures c.groups.ensures c.groups-2.ensures
    c.groups-3.ensures c.flags.ensures c.flags-2.ensures
    (of_marks items (λ l. length l ≡ length tree.scopes) s.result scopes.scopes
    scopes.ensures.flags s.ensures.each)
    (of_marks items (λ l. (n : ℕ) → is_flagged l n ≡ keeps_scope (with_rows tree w) n) s.result
    scopes.scopes scopes.ensures.flags s.ensures.flags)
    (of_marks items (AreFlags (group_stays_at c.flags.result.now v.groups) (length v.groups))
    c.flag_groups.result groups.groups groups.ensures.flags c.flag_groups.ensures.flags)
    (of_marks items (AreFlags (task_stays_at c.flags-2.result.now u.tasks) (length u.tasks))
    c.flag_tasks.result tasks.tasks tasks.ensures.flags c.flag_tasks.ensures.flags)

pub flag_scopes-requires-clause-ordered : goal.flag_scopes-requires-clause-ordered
flag_scopes-requires-clause-ordered g c =
    subst (λ (t : TreeState). AreOrdered t.scopes) (sym c.tree.ensures)
    c.count-rules.ensures.rules.numbered.ordered

pub flag_scopes-requires-clause-known : goal.flag_scopes-requires-clause-known
flag_scopes-requires-clause-known g c =
    scopes_known c.args.state.now c.groups.result.now (length c.tree.result.now.scopes)
    c.count-rules.ensures.rules c.groups.ensures
    (ap (λ (t : TreeState). length t.scopes) c.tree.ensures)

pub flag_groups-requires : goal.flag_groups-requires
flag_groups-requires g c =
    let lent = c.flags.result.now in
    let scopes = c.in_ok-scopes in
    let each = of_marks (λ (v : Vec Bool _). v.items)
    (λ l. length l ≡ length c.tree.result.now.scopes) c.flag_scopes.result scopes.scopes
    scopes.ensures.flags c.flag_scopes.ensures.each in
    record {
      known = scopes_known c.args.state.now c.groups-2.result.now (length lent)
          c.count-rules.ensures.rules c.groups-2.ensures (ap (λ l. length l) c.flags.ensures ∙ each
          ∙ ap (λ (t : TreeState). length t.scopes) c.tree.ensures);
    }

pub flag_tasks-requires : goal.flag_tasks-requires
flag_tasks-requires g c =
    let lent = c.flags-2.result.now in
    let groups = c.in_ok-groups in
    let v = c.groups-2.result.now in
    let so = of_marks (λ (v : Vec Bool _). v.items)
    (AreFlags (group_stays_at c.flags.result.now v.groups) (length v.groups)) c.flag_groups.result
    groups.groups groups.ensures.flags c.flag_groups.ensures.flags in
    record {
      known = groups_known c.args.state.now c.groups-3.result.now (length lent)
          c.count-rules.ensures.rules c.groups-3.ensures (ap (λ l. length l) c.flags-2.ensures
          ∙ so.each ∙ ap (λ (w : WorkState). length w.groups) c.groups-2.ensures);
    }

pub marked-requires-clause-few : goal.marked-requires-clause-few
marked-requires-clause-few g c =
    let many = ap (λ (t : TreeState). length t.scopes) c.tree.ensures in
    let count = c.scope_count.ensures in
    IfOk-weaker c.flag_scopes.result _ _
    (λ v each. omega (arith, each, many, count.len, count.few)) c.flag_scopes.ensures.each

pub marked-requires-clause-fault : goal.marked-requires-clause-fault
marked-requires-clause-fault g c = c.flag_scopes.ensures.fault

pub marked-requires-2-clause-few : goal.marked-requires-2-clause-few
marked-requires-2-clause-few g c =
    let many = ap (λ (w : WorkState). length w.groups) c.groups-2.ensures in
    let count = c.group_count.ensures in
    IfOk-weaker c.flag_groups.result _ _
    (λ v so. let each = so.each in omega (arith, each, many, count.len, count.few))
    c.flag_groups.ensures.flags

pub marked-requires-2-clause-fault : goal.marked-requires-2-clause-fault
marked-requires-2-clause-fault g c = c.flag_groups.ensures.fault

pub marked-requires-3-clause-few : goal.marked-requires-3-clause-few
marked-requires-3-clause-few g c =
    let many = ap (λ (w : WorkState). length w.tasks) c.groups-3.ensures in
    let count = c.task_count.ensures in
    IfOk-weaker c.flag_tasks.result _ _
    (λ v so. let each = so.each in omega (arith, each, many, count.len, count.few))
    c.flag_tasks.ensures.flags

pub marked-requires-3-clause-fault : goal.marked-requires-3-clause-fault
marked-requires-3-clause-fault g c = c.flag_tasks.ensures.fault

pub returns-in_err-scopes-clause-marks : goal.returns-in_err-scopes-clause-marks
returns-in_err-scopes-clause-marks g c =
    IfOk-from_err c.from_residual.result _ c.from_residual.ensures.0

pub returns-in_err-scopes-clause-fault : goal.returns-in_err-scopes-clause-fault
returns-in_err-scopes-clause-fault g c =
    let r = c.from_residual in
    no_memory r.result _ r.ensures.1 c.in_err-scopes.ensures.fault

pub returns-in_err-groups-clause-marks : goal.returns-in_err-groups-clause-marks
returns-in_err-groups-clause-marks g c =
    let r = c.from_residual-in_err-groups in IfOk-from_err r.result _ r.ensures.0

pub returns-in_err-groups-clause-fault : goal.returns-in_err-groups-clause-fault
returns-in_err-groups-clause-fault g c =
    let r = c.from_residual-in_err-groups in
    no_memory r.result _ r.ensures.1 c.in_err-groups.ensures.fault

pub returns-in_err-tasks-clause-marks : goal.returns-in_err-tasks-clause-marks
returns-in_err-tasks-clause-marks g c =
    let r = c.from_residual-in_err-tasks in IfOk-from_err r.result _ r.ensures.0

pub returns-in_err-tasks-clause-fault : goal.returns-in_err-tasks-clause-fault
returns-in_err-tasks-clause-fault g c =
    let r = c.from_residual-in_err-tasks in
    no_memory r.result _ r.ensures.1 c.in_err-tasks.ensures.fault
