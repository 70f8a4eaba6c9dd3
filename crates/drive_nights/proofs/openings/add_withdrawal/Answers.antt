use Rattle.std.proofs.Common.{◌∙◌, ◌++◌, Bool, List, [], ◌∷◌, ℕ, ap, append_assoc, sym}
use Rattle.run_model.specs.declared.commands.Step.{Step}
use Rattle.run_model.specs.declared.commands.Step.TheVariants as step
use Rattle.run_model.specs.declared.tasks.Outcome.TheVariants as outcome
use Rattle.drive_nights.specs.Openings.{withdrawn_if}
use Rattle.drive_nights.proofs.openings.add_withdrawal.Goals as goal

pub returns-in_ok-push-2 : goal.returns-in_ok-push-2
returns-in_ok-push-2 g c =
    let old = c.args.steps.now.items in
    let n = c.args.n in
    let start : List Step = step.Start ∷ [] in
    let finish = λ (text : List ℕ). let xs : List Step =
    step.Finish n (outcome.Failure text) ∷ [] in xs in
    c.in_ok-push-2.ensures.items
    ∙ ap (λ (xs : List Step). xs ++ finish c.text_copy.result) c.in_ok-push.ensures.items
    ∙ append_assoc old start (finish c.text_copy.result)
    ∙ ap (λ (text : List ℕ). old ++ (start ++ finish text)) c.text_copy.ensures
    ∙ ap (λ (b : Bool). old ++ withdrawn_if b n)
    (sym (sym c.is_fresh.ensures ∙ c.if-is_fresh.true))
