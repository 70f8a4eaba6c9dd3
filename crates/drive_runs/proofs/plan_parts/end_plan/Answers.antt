use Rattle.std.specs.Prelude.{Result}
use Rattle.std.proofs.Common.{inr, subst}
use Rattle.std.proofs.lemmas.Result.{IfOk-weaker}
use Rattle.drive_parts.specs.declared.plans.NightPlan.{NightPlan}
use Rattle.drive_parts.specs.declared.plans.PlanRefusal.{PlanRefusal}
use Rattle.drive_parts.specs.Plans.{IsFinished}
use Rattle.drive_runs.specs.declared.answers.Answer.{Answer}
use Rattle.drive_runs.specs.Parts.{AnswersPlan, TakesPlan}
use Rattle.drive_runs.proofs.plan_parts.end_plan.Goals as goal

pub returns-in-Ok-clause-answered : goal.returns-in-Ok-clause-answered
returns-in-Ok-clause-answered g c =
    let old = c.args.book.now in
    let new = c.begin_night.new.book in
    IfOk-weaker c.begin_night.result
    (λ (answer : Answer). TakesPlan g.D.RunDisk.state c.in-Ok.plan old answer new)
    (λ (answer : Answer). AnswersPlan g.D.RunDisk.state c.args.draft old answer new)
    (λ answer is. inr (
      c.in-Ok.plan,
      λ reports planned. subst (λ (r : Result NightPlan PlanRefusal). IsFinished reports r)
          c.in-Ok.is (c.finish.ensures reports planned),
      is,
    )) c.begin_night.ensures.answered
