use Rattle.run_model.proofs.Common.{Some, ap, ◌∙◌, option_copied, option_map}
use Rattle.run_model.specs.declared.scopes.Hit.{Hit}
use Rattle.scope_tree.proofs.trees.Tree.cause.Goals as goal

pub returns-in_err-hit-clause-cause : goal.returns-in_err-hit-clause-cause
returns-in_err-hit-clause-cause g c =
    ap option_copied c.from_residual.ensures
    ∙ rw (← c.self.view_is) (ap (option_map (λ (hit : Hit). hit.cause)) c.in_err-hit.ensures)

pub returns-clause-cause : goal.returns-clause-cause
returns-clause-cause g c =
    ap Some c.as_bytes.ensures.value
    ∙ rw (← c.self.view_is) (ap (option_map (λ (hit : Hit). hit.cause)) c.in_ok-hit.ensures)
