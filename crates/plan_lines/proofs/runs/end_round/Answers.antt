use Rattle.std.proofs.Common.{inl, inr, subst}
use Rattle.plan_lines.specs.declared.hearing.Grown.{Grown}
use Rattle.plan_lines.specs.declared.hearing.Grown.TheVariants as grown
use Rattle.plan_lines.specs.Hearing.{Grows}
use Rattle.plan_lines.specs.Runs.{AnswersRound, EndsRound, Rejects}
use Rattle.plan_lines.proofs.Steps.{answers_as}
use Rattle.plan_lines.proofs.runs.end_round.Goals as goal

pub returns-in-Ok-State : goal.returns-in-Ok-State
returns-in-Ok-State g c =
    let round = c.args.round in
    let s = c.in-Ok-State.state in
    let Has : Grown → Type 0 = λ x. Grows round.growth round.state x in
    let grows : Grows round.growth round.state (grown.State s) =
    subst Has (cc) c.in-Ok-State.ensures in
    answers_as (AnswersRound s) (EndsRound round) c.answer_round.result _ _
    (λ after lines h. inl (s, grows, h)) c.answer_round.ensures

pub returns-in-Ok-Bad : goal.returns-in-Ok-Bad
returns-in-Ok-Bad g c =
    let round = c.args.round in
    let n = c.in-Ok-Bad.line in
    let Has : Grown → Type 0 = λ x. Grows round.growth round.state x in
    let grows : Grows round.growth round.state (grown.Bad n) =
    subst Has (cc) c.in-Ok-Bad.ensures in
    answers_as (Rejects n) (EndsRound round) c.reject.result _ _
    (λ after lines h. inr (n, grows, h)) c.reject.ensures
