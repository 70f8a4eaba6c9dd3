use Rattle.std.proofs.Common.{◌≡◌, ◌≤◌, ◌∙◌, ◌++◌, List, ℕ, ap, arith, codes, length, subst, sym}
use Rattle.std.proofs.Common.{take}
use Rattle.std.proofs.lemmas.List.{length-take}
use Rattle.run_model.specs.Texts.{IsText}
use Rattle.drive_steps.specs.Cancels.{canceled_text}
use Rattle.drive_steps.proofs.Canceling.{text_again}
use Rattle.drive_steps.proofs.cancels.canceled_text.Goals as goal

pub push-requires-2 : goal.push-requires-2
push-requires-2 c =
    let one : length c.push.new.out.items ≡ 10 =
    ap length (c.push.ensures
    ∙ ap (λ (xs : List ℕ). xs ++ codes "canceled: ") c.new-bytes.ensures) in
    let two : length c.cut.result.now ≤ 54 =
    omega (arith, ap length c.cut.ensures, length-take 54 c.as_bytes.result.now) in
    omega (arith, one, two)

pub text_copy-requires : goal.text_copy-requires
text_copy-requires c =
    let text : c.as_slice.result.now ≡ canceled_text c.args.why.now =
    c.as_slice.ensures.value ∙ c.push-2.ensures
    ∙ ap (λ (xs : List ℕ). xs ++ c.cut.result.now)
    (c.push.ensures ∙ ap (λ (xs : List ℕ). xs ++ codes "canceled: ") c.new-bytes.ensures)
    ∙ ap (λ (ys : List ℕ). codes "canceled: " ++ ys)
    (c.cut.ensures ∙ ap (λ (ys : List ℕ). take 54 ys) c.as_bytes.ensures.value) in
    subst (λ (xs : List ℕ). IsText xs) (sym text)
    (text_again c.args.why.now c.as_bytes.ensures.text)

pub returns : goal.returns
returns c =
    c.text_copy.ensures ∙ c.as_slice.ensures.value ∙ c.push-2.ensures
    ∙ ap (λ (xs : List ℕ). xs ++ c.cut.result.now)
    (c.push.ensures ∙ ap (λ (xs : List ℕ). xs ++ codes "canceled: ") c.new-bytes.ensures)
    ∙ ap (λ (ys : List ℕ). codes "canceled: " ++ ys)
    (c.cut.ensures ∙ ap (λ (ys : List ℕ). take 54 ys) c.as_bytes.ensures.value)
