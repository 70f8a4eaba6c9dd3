use Rattle.std.proofs.Common.{◌∙◌, ◌++◌, List, ℕ, ap, subst, sym}
use Rattle.std.specs.Fmt.{decimal}
use Rattle.run_model.specs.Texts.{IsText}
use Rattle.drive_nights.proofs.Spelling.{number_is_text}
use Rattle.drive_nights.proofs.nights.number_text.Goals as goal

pub text_copy-requires : goal.text_copy-requires
text_copy-requires c =
    let empty = c.new-digits.ensures in
    subst (λ (bytes : List ℕ). IsText bytes)
    (sym (c.as_slice.ensures.value ∙ c.push_number.ensures.items
    ∙ ap (λ (xs : List ℕ). xs ++ decimal c.args.number) empty))
    (number_is_text c.args.number c.ranges.number.fits)
