use Rattle.std.specs.Prelude.{Option, Some, None}
use Rattle.std.proofs.Common.{List, [], ap, arith, length, subst, sym, ◌∙◌, ◌≡◌}
use Rattle.std.proofs.Common.{ℕ, ◌∷◌}
use Rattle.std.proofs.lemmas.Result.{IfOk-weaker}
use Rattle.run_model.specs.State.{State}
use Rattle.plan_lines.specs.declared.answers.AnswerLine.TheVariants as answer
use Rattle.drive_lines.specs.declared.orders.Order.TheVariants as order
use Rattle.drive_parts.specs.Rounds.{IsHeard}
use Rattle.drive_runs.specs.declared.answers.Answer.{Answer}
use Rattle.drive_runs.specs.declared.openings.Hindrance.{Hindrance}
use Rattle.drive_runs.specs.declared.parts.Next.TheVariants as next
use Rattle.drive_runs.specs.declared.parts.Part.TheVariants as part
use Rattle.drive_runs.specs.declared.sittings.Kept.{Kept}
use Rattle.drive_runs.specs.Answers.{Hinders, end_line}
use Rattle.drive_runs.specs.Opens.{Opens}
use Rattle.drive_runs.specs.Parts.{OpensFirst}
use Rattle.drive_runs.proofs.Seating.{sits_first}
use Rattle.drive_runs.proofs.plan_parts.open_first.Goals as goal

pub of-sitting-requires : goal.of-sitting-requires
of-sitting-requires g c = ap (λ (l : List ℕ). length l) c.in_ok-fresh.ensures.sizes

pub returns-in-Some-clause-opened : goal.returns-in-Some-clause-opened
returns-in-Some-clause-opened g c =
    let old = c.args.book.now in
    let sitting = c.of-sitting.result in
    let now = c.get-now.ensures.value ∙ c.clock.ensures
    ∙ ap (λ (p : State). p.tree.clock) c.state.ensures.state in
    IfOk-weaker c.hindered.result (Hinders c.in-Some.hindrance)
    (λ (answer : Answer). OpensFirst g.D.RunDisk.state c.args.plan c.args.night old answer
    c.open_night.new.book)
    (λ answer is. (
      sitting,
      sits_first c.args.plan c.args.night old.session.state.tree.clock _ c.in_ok-fresh.fresh sitting
          now c.in_ok-fresh.ensures c.of-sitting.ensures.plan c.of-sitting.ensures.kept
          c.of-sitting.ensures.night,
      Some c.in-Some.hindrance,
      subst (λ (found : Option Hindrance). Opens g.D.RunDisk.state sitting old found
          c.open_night.new.book) c.in-Some.is c.in_ok-hindrance.ensures.opens,
      is,
    )) c.hindered.ensures

pub returns-clause-opened : goal.returns-clause-opened
returns-clause-opened g c =
    let old = c.args.book.now in
    let sitting = c.of-sitting.result in
    let lines = c.in_ok-lines.lines.items in
    let night = c.args.night in
    let plan = c.args.plan.plan in
    let count : c.len-count.result ≡ length plan.commands.items =
    omega (arith, c.len-count.ensures, plan.commands.ok) in
    let now = c.get-now.ensures.value ∙ c.clock.ensures
    ∙ ap (λ (p : State). p.tree.clock) c.state.ensures.state in
    let before = c.of-sitting.ensures.plan in
    let after = c.parts-rounds.ensures.plan in (
      sitting,
      sits_first c.args.plan night old.session.state.tree.clock _ c.in_ok-fresh.fresh sitting
          now c.in_ok-fresh.ensures before c.of-sitting.ensures.kept c.of-sitting.ensures.night,
      None,
      subst (λ (found : Option Hindrance). Opens g.D.RunDisk.state sitting old found
          c.open_night.new.book) c.in_default.is c.in_ok-hindrance.ensures.opens,
      record {
        lines = subst (λ (n : ℕ). lines
            ≡ order.Answer (answer.Plan n) ∷ order.Night night ∷ end_line ∷ []) count
            c.in_ok-lines.ensures;
        rounds = c.parts-rounds.result.0;
        same = record {
          plan = after.plan ∙ sym before.plan;
          groups = after.groups ∙ sym before.groups;
          keys = after.keys ∙ sym before.keys;
          untils = after.untils ∙ sym before.untils;
          all = after.all ∙ sym before.all;
        };
        lives = c.new-lives.result;
        none = c.new-lives.ensures;
        heard = c.new-heard.result;
        nothing = subst (λ (tasks : List ℕ). IsHeard c.parts-rounds.result.0 tasks []
            c.new-heard.result) c.new-2.ensures.items c.new-heard.ensures;
        goes_on = ap (λ (k : Kept). next.Part (part.First k c.new-lives.result
            c.new-heard.result)) c.parts-rounds.ensures.kept;
      },
    )
