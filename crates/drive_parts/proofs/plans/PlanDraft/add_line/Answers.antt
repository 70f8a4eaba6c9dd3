use Rattle.std.proofs.Common.{Some, subst, sym}
use Rattle.plan_lines.specs.declared.lines.PlanLine.{PlanLine}
use Rattle.drive_lines.specs.declared.reports.Report.TheVariants as report
use Rattle.drive_parts.specs.Plans.{Adds}
use Rattle.drive_parts.proofs.Planning.{adds_need, adds_pool, adds_take, ok_then}
use Rattle.drive_parts.proofs.plans.PlanDraft.add_line.Goals as goal

pub returns-in_ok-with_pool-in-Pool : goal.returns-in_ok-with_pool-in-Pool
returns-in_ok-with_pool-in-Pool c = λ xs is.
    let e = c.in_ok-with_pool-in-Pool.field-0 in
    let P : PlanLine → Type 0 = λ l. Adds xs (report.Plan l) (Some e) in
    subst P (sym c.in-Pool.is)
    (adds_pool xs c.args.self e c.in-Pool.size c.in_ok-with_pool-in-Pool.ensures.pools
    c.in_ok-with_pool-in-Pool.ensures.groups c.in_ok-with_pool-in-Pool.ensures.commands
    c.in_ok-with_pool-in-Pool.ensures.all c.in_ok-with_pool-in-Pool.ensures.next is)

pub returns-in-Need : goal.returns-in-Need
returns-in-Need c =
    ok_then c.with_detail.result (λ draft has xs is.
    let P : PlanLine → Type 0 = λ l. Adds xs (report.Plan l) draft in
    subst P (sym c.in-Need.is) (adds_need xs c.args.self draft c.in-Need.need has is))
    c.with_detail.ensures

pub returns-in-Take : goal.returns-in-Take
returns-in-Take c =
    ok_then c.with_detail-in-Take.result (λ draft has xs is.
    let P : PlanLine → Type 0 = λ l. Adds xs (report.Plan l) draft in
    subst P (sym c.in-Take.is) (adds_take xs c.args.self draft c.in-Take.take has is))
    c.with_detail-in-Take.ensures
