use Rattle.run_model.proofs.Common.{ap, ◌∙◌}
use Rattle.run_model.specs.declared.groups.Group.{Group}
use Rattle.state_renewal.proofs.renewed_rows.group_renumbered.Goals as goal

pub returns-clause-value : goal.returns-clause-value
returns-clause-value g c =
    ap (λ (r : Group). record r { scope = c.number.result }) c.group_row-view.ensures.value
    ∙ ap (λ n. record c.args.row.now { scope = n }) c.number.ensures.value
