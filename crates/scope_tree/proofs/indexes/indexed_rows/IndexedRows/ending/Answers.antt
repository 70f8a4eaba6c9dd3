use Rattle.run_model.proofs.Common.{rules, ◌≡◌, ◌∙◌, ap, sym, ◌<◌, length, arith, refl, Some, None}
use Rattle.run_model.proofs.Common.{slice_get_read}
use Rattle.std.proofs.lemmas.List.{get_or_read_under}
use Rattle.std.specs.Option.{option_and_then}
use Rattle.run_model.specs.declared.scopes.Scope.{Scope}
use Rattle.scope_tree.specs.Marks.{mark_of}
use Rattle.scope_tree.proofs.Marking.{marked_ending, marked_within}
use Rattle.scope_tree.proofs.indexes.indexed_rows.IndexedRows.ending.Goals as goal

pub returns : goal.returns
returns g c =
    let rows = c.self.inside.scopes.items in
    let marks = c.self.inside.marks.items in
    let known = rw (← c.self.view_is) at c.requires in
    let within : c.args.s < length marks = omega (arith, known, c.self.invariant.marked.same) in
    let mark : mark_of marks c.args.s ≡ Some c.in_ok-n.n =
    sym (get_or_read_under marks c.args.s _ (Some c.in_ok-n.n) None (search rules) within refl) in
    let marked = marked_within rows marks c.args.s _ c.self.invariant.marked known mark in
    let found = slice_get_read rows _ c.in_ok-n.n c.index-2.result.now refl marked
    c.index-2.ensures in
    rw (← c.self.view_is)
    (c.as_ref.ensures.value
    ∙ sym
    (marked_ending rows marks c.args.s _ c.self.invariant.marked known mark
    ∙ ap (option_and_then (λ (row : Scope). row.hit)) found))
