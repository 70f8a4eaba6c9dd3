use Rattle.run_model.proofs.Common.{◌≡◌, Some, slice_get, refl, sym, ap, ◌∙◌, slice_get_read}
use Rattle.run_model.proofs.Common.{hit_due}
use Rattle.run_model.specs.declared.scopes.Scope.{Scope}
use Rattle.scope_tree.proofs.Heaps.{known_at}
use Rattle.scope_tree.proofs.Waiting.{due_is}
use Rattle.scope_tree.proofs.indexes.deadlines.first_hit.Goals as goal

pub bounds-scopes-due : goal.bounds-scopes-due
bounds-scopes-due c =
    known_at c.args.scopes.now c.args.due.now 0 c.requires.known c.requires.some

pub returns : goal.returns
returns c =
    let rows = c.args.scopes.now in
    let row = c.index-scopes-due.result in
    let found : slice_get rows _ ≡ Some row =
    slice_get_read rows _ _ row refl
    (known_at rows c.args.due.now 0 c.requires.known c.requires.some) c.index-scopes-due.is in
    c.hit_due.ensures
    ∙ ap (λ (r : Scope). hit_due c.args.event c.args.clock r.kind) (sym c.index-scopes-due.is)
    ∙ sym (due_is c.args.event c.args.clock rows _ row found)
