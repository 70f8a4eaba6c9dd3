use Rattle.run_model.proofs.Common.{◌++◌, ◌∷◌, [], length, sym, subst, ap, ◌∙◌, arith}
use Rattle.run_model.proofs.Common.{length-append, AreOrdered}
use Rattle.scope_tree.specs.Marks.{AreMarked, IsMark}
use Rattle.scope_tree.specs.Reaches.{AreReaches, AreReached}
use Rattle.scope_tree.proofs.Growing.{ordered_pushed}
use Rattle.scope_tree.proofs.Indexing.{indexed_pushed, reaches_pushed_right, same_numbered}
use Rattle.scope_tree.proofs.indexes.indexed_rows.IndexedRows.push.Goals as goal

pub mark_for-mark-requires-clause-ordered : goal.mark_for-mark-requires-clause-ordered
mark_for-mark-requires-clause-ordered g c =
    subst AreOrdered (sym c.deref.ensures.value) c.self.invariant.ordered

pub mark_for-mark-requires-clause-few : goal.mark_for-mark-requires-clause-few
mark_for-mark-requires-clause-few g c =
    let more = rw (← c.self.view_is) at c.requires.room in
    omega (arith, more, ap length c.deref.ensures.value, c.self.invariant.most)

pub mark_for-mark-requires-clause-marked : goal.mark_for-mark-requires-clause-marked
mark_for-mark-requires-clause-marked g c =
    subst (λ l. AreMarked l c.deref-2.result.now) (sym c.deref.ensures.value)
    (subst (AreMarked c.self.inside.scopes.items) (sym c.deref-2.ensures.value)
    c.self.invariant.marked)

pub mark_for-mark-requires-clause-parent : goal.mark_for-mark-requires-clause-parent
mark_for-mark-requires-clause-parent g c below =
    let known = (rw (← c.self.view_is) at c.requires.parent) below in
    omega (arith, known, ap length c.deref.ensures.value)

pub push_row-requires-clause-found : goal.push_row-requires-clause-found
push_row-requires-clause-found g c = c.self.invariant.found

pub push_row-requires-clause-waiting : goal.push_row-requires-clause-waiting
push_row-requires-clause-waiting g c = c.self.invariant.waiting

pub push_row-requires-clause-free : goal.push_row-requires-clause-free
push_row-requires-clause-free g c = rw (← c.self.view_is) at c.requires.free

pub push_row-requires-clause-parent : goal.push_row-requires-clause-parent
push_row-requires-clause-parent g c below =
    let known = (rw (← c.self.view_is) at c.requires.parent) below in
    omega (arith, known, c.self.invariant.few, c.self.invariant.most)

pub push_row-requires-clause-room : goal.push_row-requires-clause-room
push_row-requires-clause-room g c =
    let more = rw (← c.self.view_is) at c.requires.room in
    omega (arith, more)

pub push_row-requires-clause-few : goal.push_row-requires-clause-few
push_row-requires-clause-few g c = c.self.invariant.most

pub push_reserved-requires : goal.push_reserved-requires
push_reserved-requires g c =
    let more = rw (← c.self.view_is) at c.requires.room in
    omega (arith, more, c.self.invariant.marked.same, c.self.invariant.marks_fit)

pub reach_rest-requires-clause-ordered : goal.reach_rest-requires-clause-ordered
reach_rest-requires-clause-ordered g c =
    subst AreOrdered (sym (c.deref-3.ensures.value ∙ c.push_row.ensures.rows))
    (ordered_pushed c.self.inside.scopes.items c.args.row c.self.invariant.ordered
    (rw (← c.self.view_is) at c.requires.parent))

pub reach_rest-requires-clause-few : goal.reach_rest-requires-clause-few
reach_rest-requires-clause-few g c =
    let more = rw (← c.self.view_is) at c.requires.room in
    omega (
      arith,
      more,
      ap length (c.deref-3.ensures.value ∙ c.push_row.ensures.rows),
      length-append c.self.inside.scopes.items (c.args.row ∷ []),
      c.self.invariant.most,
    )

pub reach_rest-requires-clause-right : goal.reach_rest-requires-clause-right
reach_rest-requires-clause-right g c =
    subst (λ l. AreReaches l c.self.inside.reaches.items)
    (sym (c.deref-3.ensures.value ∙ c.push_row.ensures.rows))
    (reaches_pushed_right c.self.inside.scopes.items c.args.row c.self.inside.reaches.items
    c.self.invariant.ordered (rw (← c.self.view_is) at c.requires.parent)
    c.self.invariant.reached)

pub reach_rest-requires-clause-known : goal.reach_rest-requires-clause-known
reach_rest-requires-clause-known g c =
    omega (
      arith,
      c.self.invariant.reached.same,
      ap length (c.deref-3.ensures.value ∙ c.push_row.ensures.rows),
      length-append c.self.inside.scopes.items (c.args.row ∷ []),
    )

pub reach_rest-requires-clause-room : goal.reach_rest-requires-clause-room
reach_rest-requires-clause-room g c =
    let more = rw (← c.self.view_is) at c.requires.room in
    omega (
      arith,
      more,
      ap length (c.deref-3.ensures.value ∙ c.push_row.ensures.rows),
      length-append c.self.inside.scopes.items (c.args.row ∷ []),
      c.self.invariant.reaches_fit,
    )

pub invariant_of-self : goal.invariant_of-self
invariant_of-self g c =
    let old = c.self.inside in
    indexed_pushed old.scopes.items _ c.args.row old.scopes.cap _ old.marks.items _
    c.mark_for-mark.result old.names old.links _ _ old.due.items _ old.reaches.items _
    old.marks.cap old.reaches.cap _ _ c.self.invariant
    (rw (← c.self.view_is) at c.requires.room) (rw (← c.self.view_is) at c.requires.parent)
    c.push_row.ensures.rows c.push_row.ensures.capacity
    (subst (λ l. IsMark (l ++ c.args.row ∷ []) (length l) c.mark_for-mark.result)
    c.deref.ensures.value c.mark_for-mark.ensures)
    c.push_reserved.ensures.items c.push_row.ensures.found c.push_row.ensures.waiting
    (subst (λ l. AreReached l c.reach_rest.new.reaches.items) c.deref-3.ensures.value
    c.reach_rest.ensures.reached)
    c.push_reserved.ensures.capacity c.reach_rest.ensures.capacity

pub returns : goal.returns
returns g c =
    rw (← c.self.view_is)
    (same_numbered c.self.inside.scopes.cap _ _ _ c.push_row.ensures.capacity
    c.push_row.ensures.rows)
