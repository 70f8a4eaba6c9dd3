use Rattle.run_model.proofs.Common.{length, map, sym, subst, ap, ◌∙◌, arith, length-map}
use Rattle.run_model.proofs.Common.{tick}
use Rattle.model_laws.specs.Endings.{AreEarlier}
use Rattle.model_laws.proofs.Follows.{ticked}
use Rattle.model_laws.proofs.WellFormed.{ordered_follow}
use Rattle.scope_tree.specs.Deadlines.{AreWaiting}
use Rattle.scope_tree.proofs.Indexing.{indexed_given_back, kept_lent, numbered, numbered_back}
use Rattle.scope_tree.proofs.Naming.{found_ticked}
use Rattle.scope_tree.proofs.Nearing.{reached_follow}
use Rattle.scope_tree.proofs.indexes.indexed_rows.IndexedRows.expire.Goals as goal

pub expire_scopes-requires-clause-kept : goal.expire_scopes-requires-clause-kept
expire_scopes-requires-clause-kept g c =
    kept_lent _ _ _ _ _ _ _ _ _ _ c.self.invariant c.deref_mut.ensures.value
    c.deref_mut-2.ensures.value

pub expire_scopes-requires-clause-waiting : goal.expire_scopes-requires-clause-waiting
expire_scopes-requires-clause-waiting g c =
    subst (λ l. AreWaiting l c.self.inside.due.items) (sym c.deref_mut.ensures.value)
    c.self.invariant.waiting

pub expire_scopes-requires-clause-later : goal.expire_scopes-requires-clause-later
expire_scopes-requires-clause-later g c =
    subst (λ l. AreEarlier l c.args.event) (sym c.deref_mut.ensures.value)
    (rw (← c.self.view_is) at c.requires)

pub invariant_of-self : goal.invariant_of-self
invariant_of-self g c =
    let e = c.args.event in
    let now = c.args.clock in
    let old = c.self.inside in
    let rows = old.scopes.items in
    let same = c.expire_scopes.ensures.rows ∙ ap (map (tick e now)) c.deref_mut.ensures.value in
    let follows = ticked e now rows in
    let size = length-map rows (tick e now) in
    let ordered = ordered_follow e now rows (map (tick e now) rows) follows
    c.self.invariant.ordered in
    indexed_given_back (numbered old.scopes.cap rows) (map (tick e now) rows)
    c.expire_scopes.new.scopes _ old.marks.items c.expire_scopes.new.marks _ old.names old.links
    old.due.items c.expire_scopes.new.due.items old.reaches.items old.scopes.len old.marks.len
    old.marks.cap old.reaches.cap c.self.invariant size same c.expire_scopes.ensures.kept
    (found_ticked e now rows _ _ _ c.self.invariant.found)
    (subst (λ l. AreWaiting l c.expire_scopes.new.due.items) same
    c.expire_scopes.ensures.waiting)
    (reached_follow e now rows _ _ follows c.self.invariant.ordered ordered size
    c.self.invariant.reached)
    (omega (arith, ap length c.deref_mut.ensures.value))
    (omega (arith, ap length c.deref_mut-2.ensures.value))

pub returns : goal.returns
returns g c =
    rw (← c.self.view_is)
    (numbered_back (map (tick c.args.event c.args.clock)) _ _ _ c.expire_scopes.new.scopes _ _
    c.deref_mut.ensures.value c.expire_scopes.ensures.rows
    (omega (arith, ap length c.deref_mut.ensures.value)))
