use Rattle.std.proofs.Common.{◌∙◌, ◌++◌, List, Option, [], ap, append-nil, slice_get, sym}
use Rattle.std.proofs.lemmas.Option.{slice_get_past}
use Rattle.std.specs.Option.{option_map_or}
use Rattle.run_model.specs.declared.scopes.Scope.{Scope}
use Rattle.drive_nights.specs.Endings.{cancel_row}
use Rattle.drive_nights.proofs.endings.add_cancel.Goals as goal

pub returns-in-None : goal.returns-in-None
returns-in-None g c =
    let p = c.args.state.now in
    let n = c.args.night in
    let s = c.args.s in
    let items = c.args.steps.now.items in
    let (_, _, _, past, _) = c.in-None.ensures.lookup in
    sym (append-nil items)
    ∙ ap (λ (row : Option Scope). items ++ option_map_or (cancel_row p n s) row [])
    (sym (slice_get_past c.scopes.result.now s past)
    ∙ ap (λ (rows : List Scope). slice_get rows s) c.scopes.ensures)
