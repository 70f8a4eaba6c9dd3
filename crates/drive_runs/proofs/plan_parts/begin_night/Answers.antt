use Rattle.std.proofs.Common.{List, ap, inl, inr, refl, subst, ◌∙◌, ℕ}
use Rattle.std.proofs.lemmas.Result.{IfOk-weaker}
use Rattle.run_model.specs.State.{State}
use Rattle.drive_lines.specs.declared.orders.Order.TheVariants as order
use Rattle.drive_nights.specs.Nights.{night_of_store}
use Rattle.drive_runs.specs.declared.answers.Answer.{Answer}
use Rattle.drive_runs.specs.declared.drive_ends.DriveEnd.TheVariants as drive_end
use Rattle.drive_runs.specs.declared.parts.Next.TheVariants as next
use Rattle.drive_runs.specs.Answers.{Says}
use Rattle.drive_runs.specs.Parts.{IsLong, OpensFirst, TakesPlan}
use Rattle.drive_runs.proofs.plan_parts.begin_night.Goals as goal

pub returns-in-Some-first_long-clause-answered :
    goal.returns-in-Some-first_long-clause-answered
returns-in-Some-first_long-clause-answered g c =
    let old = c.args.book.now in
    let plan = c.args.plan in
    let group = c.in-Some-first_long.group in
    let night = c.night_of_store-night.ensures.value
    ∙ ap (λ (q : State). night_of_store q plan.next) c.state-2.ensures.state in
    IfOk-weaker c.end_with-in-Some-first_long.result
    (Says (order.Name group) (next.End drive_end.Refused))
    (λ (answer : Answer). TakesPlan g.D.RunDisk.state plan old answer old)
    (λ answer is. inl (
      record {
        line = order.Name group;
        why = inr (
          group,
          subst (λ (n : ℕ). IsLong n plan.groups.items group) night
              (subst (λ (l : List (List ℕ)). IsLong c.night_of_store-night.result l group)
              c.as_slice.ensures.value c.in-Some-first_long.ensures),
          refl,
        );
        says = is;
      },
      refl,
    )) c.end_with-in-Some-first_long.ensures

pub returns-clause-answered : goal.returns-clause-answered
returns-clause-answered g c =
    let old = c.args.book.now in
    let new = c.open_first.new.book in
    let plan = c.args.plan in
    let night = c.night_of_store-night.ensures.value
    ∙ ap (λ (q : State). night_of_store q plan.next) c.state-2.ensures.state in
    IfOk-weaker c.open_first.result (λ (answer : Answer).
    OpensFirst g.D.RunDisk.state plan c.night_of_store-night.result old answer new)
    (λ (answer : Answer). TakesPlan g.D.RunDisk.state plan old answer new)
    (λ answer opens. inr (subst (λ (n : ℕ). OpensFirst g.D.RunDisk.state plan n old answer new)
    night opens)) c.open_first.ensures.opened
