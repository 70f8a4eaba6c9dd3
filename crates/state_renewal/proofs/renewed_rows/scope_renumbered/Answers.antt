use Rattle.run_model.proofs.Common.{ap, arith, ◌∙◌}
use Rattle.run_model.specs.declared.scopes.Scope.{Scope}
use Rattle.state_renewal.proofs.renewed_rows.scope_renumbered.Goals as goal

pub number-requires : goal.number-requires
number-requires g c = omega (arith, c.requires.known)

pub returns-clause-value : goal.returns-clause-value
returns-clause-value g c =
    ap (λ (r : Scope). record r { parent = c.number.result }) c.scope_row-view.ensures.value
    ∙ ap (λ n. record c.args.row.now { parent = n }) c.number.ensures.value
