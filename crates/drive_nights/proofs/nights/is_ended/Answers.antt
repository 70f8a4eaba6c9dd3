use Rattle.std.proofs.Common.{◌∙◌, List, ℕ, Option, ap, false, is_some, sym}
use Rattle.std.specs.Option.{option_map_or}
use Rattle.run_model.specs.State.{scope_named}
use Rattle.drive_nights.specs.declared.names.Role.TheVariants.{Ended}
use Rattle.drive_nights.specs.Names.{role_name}
use Rattle.drive_nights.specs.Nights.{name_at, top_above}
use Rattle.drive_nights.proofs.nights.is_ended.Goals as goal

pub returns-in-Some : goal.returns-in-Some
returns-in-Some g c =
    let p = c.args.state.now in
    let n = c.args.night in
    c.has_mark.ensures
    ∙ ap (λ (name : List ℕ). is_some (scope_named p.tree (role_name name Ended)))
    (c.name_at.ensures ∙ ap (name_at p) c.top_above.ensures)
    ∙ ap (λ (o : Option ℕ). option_map_or (λ s.
    is_some (scope_named p.tree (role_name (name_at p (top_above p n s)) Ended))) o false)
    (sym c.in-Some.is ∙ c.base_of.ensures.base)
