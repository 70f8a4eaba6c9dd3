use Rattle.run_model.proofs.Common.{length, ap, arith, most_scopes_most, TreeState}
use Rattle.scope_tree.proofs.Reaching.{hits_reach_down}
use Rattle.scope_tree.proofs.trees.Tree.len.Goals as goal

pub returns-clause-hits : goal.returns-clause-hits
returns-clause-hits g c =
    rw (← c.self.view_is)
    (hits_reach_down c.self.inside.clock c.self.inside.rows.rows c.self.invariant.hits)

pub returns-clause-len : goal.returns-clause-len
returns-clause-len g c =
    let same = ap (λ (t : TreeState). length t.scopes) c.self.view_is in
    omega (arith, same, c.len.ensures)

pub returns-clause-few : goal.returns-clause-few
returns-clause-few g c =
    omega (arith, c.len.ensures, c.self.invariant.few, most_scopes_most c.self.inside.layout)
