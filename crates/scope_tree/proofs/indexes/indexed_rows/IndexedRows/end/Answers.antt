use Rattle.run_model.proofs.Common.{length, sym, subst, ap, ◌∙◌, arith, with_hit, at_row}
use Rattle.run_model.proofs.Common.{length-at_row}
use Rattle.model_laws.proofs.Levels.{ordered_hit}
use Rattle.scope_tree.specs.Marks.{Struck}
use Rattle.scope_tree.proofs.Indexing.{indexed_given_back, kept_lent, numbered, reached_hit}
use Rattle.scope_tree.proofs.Indexing.{numbered_back}
use Rattle.scope_tree.proofs.Naming.{found_hit}
use Rattle.scope_tree.proofs.Waiting.{waiting_hit}
use Rattle.scope_tree.proofs.indexes.indexed_rows.IndexedRows.end.Goals as goal

pub end_scope-requires-clause-kept : goal.end_scope-requires-clause-kept
end_scope-requires-clause-kept g c =
    kept_lent _ _ _ _ _ _ _ _ _ _ c.self.invariant c.deref_mut.ensures.value
    c.deref_mut-2.ensures.value

pub end_scope-requires-clause-known : goal.end_scope-requires-clause-known
end_scope-requires-clause-known g c =
    let known = rw (← c.self.view_is) at c.requires.known in
    omega (arith, known, ap length c.deref_mut.ensures.value)

pub end_scope-requires-clause-struck : goal.end_scope-requires-clause-struck
end_scope-requires-clause-struck g c =
    subst (λ l. Struck l c.args.s c.args.hit) (sym c.deref_mut.ensures.value)
    (rw (← c.self.view_is) at c.requires.struck)

pub invariant_of-self : goal.invariant_of-self
invariant_of-self g c =
    let old = c.self.inside in
    let s = c.args.s in
    let hit = c.args.hit in
    let rows = old.scopes.items in
    let ordered = ordered_hit hit s rows c.self.invariant.ordered in
    indexed_given_back (numbered old.scopes.cap rows) (at_row (with_hit hit) s rows)
    c.end_scope.new.scopes _ old.marks.items c.end_scope.new.marks _ old.names old.links
    old.due.items old.due.items old.reaches.items old.scopes.len old.marks.len old.marks.cap
    old.reaches.cap c.self.invariant (length-at_row (with_hit hit) s rows)
    (c.end_scope.ensures.rows ∙ ap (at_row (with_hit hit) s) c.deref_mut.ensures.value)
    c.end_scope.ensures.kept (found_hit hit s rows _ _ _ c.self.invariant.found)
    (waiting_hit hit s rows _ c.self.invariant.waiting)
    (reached_hit hit s rows _ c.self.invariant.ordered ordered c.self.invariant.reached)
    (omega (arith, ap length c.deref_mut.ensures.value))
    (omega (arith, ap length c.deref_mut-2.ensures.value))

pub returns : goal.returns
returns g c =
    rw (← c.self.view_is)
    (numbered_back (at_row (with_hit c.args.hit) c.args.s) _ _ _ c.end_scope.new.scopes _ _
    c.deref_mut.ensures.value c.end_scope.ensures.rows
    (omega (arith, ap length c.deref_mut.ensures.value)))
