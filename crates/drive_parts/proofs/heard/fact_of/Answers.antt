use Rattle.std.proofs.Common.{subst, sym}
use Rattle.drive_lines.specs.declared.reports.Report.{Report}
use Rattle.drive_parts.specs.Heard.{Reads}
use Rattle.drive_parts.proofs.heard.fact_of.Goals as goal

pub returns-in-Plan : goal.returns-in-Plan
returns-in-Plan c = λ xs are.
    let P : Report → Type 0 = λ r.
    Reads c.args.counts c.args.living.now xs r c.plan_fact.result in
    subst P (sym c.in-Plan.is) (c.plan_fact.ensures c.args.living.now xs)
