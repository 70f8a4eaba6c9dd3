use Rattle.run_model.proofs.Common.{◌≡◌, ◌<◌, length, ap, subst, arith, deadline_of}
use Rattle.scope_tree.specs.IndexedRows.{Numbered}
use Rattle.scope_tree.proofs.Nearing.{reach_at}
use Rattle.scope_tree.proofs.indexes.indexed_rows.IndexedRows.deadline.Goals as goal

pub index-requires : goal.index-requires
index-requires g c =
    let known = rw (← c.self.view_is) at c.requires in
    omega (arith, known, c.self.invariant.reached.same)

pub returns : goal.returns
returns g c =
    let rows = c.self.inside.scopes.items in
    let known : c.args.s < length rows = rw (← c.self.view_is) at c.requires in
    subst (λ rows. c.index.result.now.deadline ≡ deadline_of rows c.args.s)
    (ap (λ (r : Numbered). r.rows) c.self.view_is)
    (reach_at rows c.self.inside.reaches.items c.args.s c.index.result.now
    c.self.invariant.reached known c.index.ensures).deadline
