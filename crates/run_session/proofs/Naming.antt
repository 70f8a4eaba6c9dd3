-- Bytes by which a scope is found are its name.
use Rattle.std.specs.Prelude.{◌≡◌, ℕ, List, Some, unwrap_or}
use Rattle.std.specs.Option.{option_map}
use Rattle.std.specs.Str.{bytes_eq}
use Rattle.std.proofs.Common.{ap, sym, ◌∙◌}
use Rattle.std.proofs.lemmas.Slice.Eq.{bytes_eq-Decides}
use Rattle.run_model.specs.State.{TreeState, scope_named}
use Rattle.scope_tree.specs.Questions.{name_of}
use Rattle.model_laws.proofs.Places.{row_at_place}

pub named_so : (t : TreeState) (bytes name : List ℕ) (s : ℕ) → scope_named t bytes ≡ Some s
    → name_of t s ≡ Some name → name ≡ bytes
named_so t bytes name s at is =
    let row = row_at_place (λ row. bytes_eq bytes row.name) t.scopes s at in
    let same = (bytes_eq-Decides bytes row.0.name).0 row.2 in
    ap (λ o. unwrap_or o name) (sym is ∙ ap (option_map (λ r. r.name)) row.1) ∙ sym same
