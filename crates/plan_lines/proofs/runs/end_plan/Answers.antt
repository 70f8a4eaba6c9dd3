use Rattle.std.proofs.Common.{inl, inr}
use Rattle.plan_lines.specs.Runs.{BeginsRounds, EndsPlan, Refuses}
use Rattle.plan_lines.proofs.Steps.{answers_as}
use Rattle.plan_lines.proofs.runs.end_plan.Goals as goal

pub returns-in-Ok : goal.returns-in-Ok
returns-in-Ok g c =
    answers_as (BeginsRounds c.in-Ok.plan) (EndsPlan c.args.draft) c.begin_rounds.result _ _
    (λ after lines h. inl (c.in-Ok.plan, c.in-Ok.ensures, h)) c.begin_rounds.ensures

pub returns-in-Err : goal.returns-in-Err
returns-in-Err g c =
    answers_as (Refuses c.in-Err.fault) (EndsPlan c.args.draft) c.refuse.result _ _
    (λ after lines h. inr (c.in-Err.fault, c.in-Err.ensures, h)) c.refuse.ensures
