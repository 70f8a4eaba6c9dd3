use Rattle.std.proofs.Common.{◌∙◌, List, ℕ, subst, sym}
use Rattle.run_model.specs.Texts.{IsName}
use Rattle.drive_nights.proofs.Spelling.{role_is_name}
use Rattle.drive_nights.proofs.names.role_name.Goals as goal

pub name_copy-requires : goal.name_copy-requires
name_copy-requires c =
    subst (λ (bytes : List ℕ). IsName bytes)
    (sym (c.as_slice.ensures.value ∙ c.role_bytes.ensures.value))
    (role_is_name c.args.name.now c.args.role c.role_bytes.ensures.name c.requires)
