use Rattle.std.proofs.Common.{◌≢◌, []}
use Rattle.plan_lines.specs.Runs.{Rejects, TakesLine}
use Rattle.plan_lines.proofs.Steps.{answers_as, some_from_test, takes_bad}
use Rattle.plan_lines.proofs.runs.take_line.Goals as goal

pub returns-in-None : goal.returns-in-None
returns-in-None g c =
    let line = c.args.line.now in
    let some : line ≢ [] = some_from_test line _ c.is_empty.ensures c.if-is_empty.false in
    answers_as (Rejects c.args.number) (TakesLine c.args.part c.args.number line)
    c.reject.result _ _
    (takes_bad c.args.part c.args.number line some c.in-None.ensures) c.reject.ensures
