use Rattle.std.proofs.Common.{Bool, List, [], ap, map, subst, sym, ◌∙◌, ℕ}
use Rattle.drive_parts.specs.Rounds.{IsHeard}
use Rattle.drive_runs.specs.declared.living.Living.{Living}
use Rattle.drive_runs.specs.declared.parts.Next.TheVariants as next
use Rattle.drive_runs.specs.declared.parts.Part.TheVariants as part
use Rattle.drive_runs.specs.declared.sittings.Kept.{Kept}
use Rattle.drive_runs.specs.Answers.{GoesTo}
use Rattle.drive_runs.proofs.round_parts.next_after.Goals as goal

pub returns : goal.returns
returns c =
    let heard = c.new-heard.result in
    let plan = c.parts-plan.result.0 in
    let kept = c.parts-plan.ensures.kept in
    let tasks = c.in_ok-living.ensures
    ∙ ap (λ (l : List Living). map (λ (one : Living). one.task) l)
    (c.as_slice.ensures.value ∙ ap (λ (k : Kept). k.living.items) kept) in
    subst (λ (over : Bool). GoesTo over c.args.sitting
    (next.Part (part.Round c.parts-plan.result.1 heard))) (sym c.if-is_over.false) (
      plan,
      heard,
      ap (λ (k : Kept). next.Part (part.Round k heard)) kept,
      c.parts-plan.ensures.plan,
      subst (λ (l : List ℕ). IsHeard plan l [] heard) tasks c.new-heard.ensures,
    )
