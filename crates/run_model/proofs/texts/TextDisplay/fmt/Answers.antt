use Rattle.std.proofs.Common.{subst, sym, List, ℕ}
use Rattle.run_model.specs.Texts.{IsText}
use Rattle.run_model.proofs.AsciiLemmas.{ascii_is_read, text_is_ascii}
use Rattle.run_model.proofs.texts.TextDisplay.fmt.Goals as goal

pub unwrap-requires : goal.unwrap-requires
unwrap-requires g c =
    let P : List ℕ → Type 0 = λ bytes. IsText bytes in
    let text = subst P (sym c.as_bytes.ensures.value) c.as_bytes.ensures.text in
    ascii_is_read _ _ _ c.from_utf8.result c.from_utf8.ensures.cases (text_is_ascii _ text)
