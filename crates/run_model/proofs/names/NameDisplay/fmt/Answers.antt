use Rattle.std.proofs.Common.{subst, sym, List, ℕ}
use Rattle.run_model.specs.Texts.{IsName}
use Rattle.run_model.proofs.AsciiLemmas.{ascii_is_read, name_is_ascii}
use Rattle.run_model.proofs.names.NameDisplay.fmt.Goals as goal

pub unwrap-requires : goal.unwrap-requires
unwrap-requires g c =
    let P : List ℕ → Type 0 = λ bytes. IsName bytes in
    let name = subst P (sym c.as_bytes.ensures.value) c.as_bytes.ensures.name in
    ascii_is_read _ _ _ c.from_utf8.result c.from_utf8.ensures.cases (name_is_ascii _ name)
