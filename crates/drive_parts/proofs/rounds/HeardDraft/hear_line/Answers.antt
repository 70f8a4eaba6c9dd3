use Rattle.std.proofs.Common.{Some, ap}
use Rattle.plan_lines.specs.declared.lines.PlanLine.{PlanLine}
use Rattle.plan_lines.specs.declared.lines.PlanLine.TheVariants as line
use Rattle.drive_lines.specs.declared.reports.Report.TheVariants as report
use Rattle.drive_parts.specs.Rounds.{draft_of}
use Rattle.drive_parts.proofs.Planning.{ok_then}
use Rattle.drive_parts.proofs.Rounding.{hears_as, hears_need, hears_of, hears_pool, hears_take}
use Rattle.drive_parts.proofs.Rounding.{no_detail, parts_of}
use Rattle.drive_parts.proofs.rounds.HeardDraft.hear_line.Goals as goal

pub returns-in_ok-growth-in-Pool : goal.returns-in_ok-growth-in-Pool
returns-in_ok-growth-in-Pool c = λ old tasks xs is.
    let d = c.args.self in
    let size = c.in-Pool.size in
    let h = c.in_ok-growth-in-Pool.growth in
    hears_as old tasks xs (report.Plan c.args.line) (report.Plan (line.Pool size))
    (draft_of (Some h) d.heard d.living) c.grown.result
    (ap (λ (l : PlanLine). report.Plan l) c.in-Pool.is) c.grown.ensures
    (hears_pool old tasks xs d is c.in_ok-closed-in-Pool.field-0 h size
    c.in_ok-closed-in-Pool.ensures c.in_ok-growth-in-Pool.ensures)

pub returns-in_ok-with_detail-in-Need : goal.returns-in_ok-with_detail-in-Need
returns-in_ok-with_detail-in-Need c = λ old tasks xs is.
    let d = c.args.self in
    let o = c.in_ok-with_detail-in-Need.field-0 in
    hears_as old tasks xs (report.Plan c.args.line) (report.Plan (line.Need c.in-Need.need))
    (draft_of o d.heard d.living) c.grown-in-Need.result
    (ap (λ (l : PlanLine). report.Plan l) c.in-Need.is) c.grown-in-Need.ensures
    (hears_need old tasks xs d is c.in-Need.need o c.in_ok-with_detail-in-Need.ensures)

pub returns-in_ok-with_detail-in-Take : goal.returns-in_ok-with_detail-in-Take
returns-in_ok-with_detail-in-Take c = λ old tasks xs is.
    let d = c.args.self in
    let o = c.in_ok-with_detail-in-Take.field-0 in
    hears_as old tasks xs (report.Plan c.args.line) (report.Plan (line.Take c.in-Take.take))
    (draft_of o d.heard d.living) c.grown-in-Take.result
    (ap (λ (l : PlanLine). report.Plan l) c.in-Take.is) c.grown-in-Take.ensures
    (hears_take old tasks xs d is c.in-Take.take o c.in_ok-with_detail-in-Take.ensures)

pub returns-in_ok-closed-in_default : goal.returns-in_ok-closed-in_default
returns-in_ok-closed-in_default c =
    ok_then c.hear_fact.result (λ draft has old tasks xs is.
    hears_of old tasks xs (report.Plan c.args.line) draft
    (no_detail c.args.line c.in_default.not-Pool c.in_default.not-Need c.in_default.not-Take)
    (has old tasks xs (parts_of old tasks xs c.args.self is c.in_ok-closed-in_default.field-0
    c.in_ok-closed-in_default.ensures))) c.hear_fact.ensures
