use Rattle.run_model.proofs.Common.{is_some, ap, ◌∙◌, option_map}
use Rattle.run_model.specs.declared.scopes.Hit.{Hit}
use Rattle.model_laws.proofs.Reaches.{done_exactly}
use Rattle.scope_tree.proofs.Reaching.{hits_reach_down}
use Rattle.scope_tree.proofs.trees.Tree.err.Goals as goal

pub returns-in_err-hit-clause-reason : goal.returns-in_err-hit-clause-reason
returns-in_err-hit-clause-reason g c =
    c.from_residual.ensures
    ∙ rw (← c.self.view_is) (ap (option_map (λ (hit : Hit). hit.reason)) c.in_err-hit.ensures)

pub returns-in_err-hit-clause-done : goal.returns-in_err-hit-clause-done
returns-in_err-hit-clause-done g c =
    ap is_some c.from_residual.ensures
    ∙ rw (← c.self.view_is)
    (ap is_some c.in_err-hit.ensures ∙ done_exactly c.self.inside.rows.rows c.args.s)

pub returns-in_err-hit-clause-hits : goal.returns-in_err-hit-clause-hits
returns-in_err-hit-clause-hits g c =
    rw (← c.self.view_is)
    (hits_reach_down c.self.inside.clock c.self.inside.rows.rows c.self.invariant.hits)

pub returns-clause-reason : goal.returns-clause-reason
returns-clause-reason g c =
    rw (← c.self.view_is) (ap (option_map (λ (hit : Hit). hit.reason)) c.in_ok-hit.ensures)

pub returns-clause-done : goal.returns-clause-done
returns-clause-done g c =
    rw (← c.self.view_is)
    (ap is_some c.in_ok-hit.ensures ∙ done_exactly c.self.inside.rows.rows c.args.s)

pub returns-clause-hits : goal.returns-clause-hits
returns-clause-hits g c =
    rw (← c.self.view_is)
    (hits_reach_down c.self.inside.clock c.self.inside.rows.rows c.self.invariant.hits)
