use Rattle.std.proofs.Common.{◌∙◌, ◌∷◌, [], ap, length, refl, subst, sym}
use Rattle.night_plan.specs.declared.commands.Plan.{Plan}
use Rattle.plan_lines.specs.declared.answers.AnswerLine.TheVariants as answer
use Rattle.plan_lines.specs.declared.hearing.Round.{Round}
use Rattle.plan_lines.specs.declared.runs.Next.TheVariants as next
use Rattle.plan_lines.specs.declared.runs.InputPart.TheVariants as part
use Rattle.plan_lines.specs.Runs.{BeginsRounds}
use Rattle.plan_lines.proofs.Steps.{answers_this}
use Rattle.plan_lines.proofs.runs.begin_rounds.Goals as goal

pub returns : goal.returns
returns g c =
    let lines = c.as_slice.result.now in
    let Begins : Round → Type 0 = λ r.
    BeginsRounds c.args.plan (next.Part (part.Round r)) lines in
    let is =
    c.as_slice.ensures.value ∙ c.in-Ok-taken_answer.ensures
    ∙ ap (λ (p : Plan). answer.Plan (length p.commands.items) ∷ answer.End ∷ [])
    c.in-Ok.ensures.plan_is in
    answers_this (BeginsRounds c.args.plan) (next.Part (part.Round c.new.result)) lines
    c.answered.result _ _ (subst Begins (sym c.new.ensures) (c.in-Ok.ensures, refl, is))
    c.answered.ensures
