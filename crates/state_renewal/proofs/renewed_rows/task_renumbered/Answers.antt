use Rattle.run_model.proofs.Common.{ap, ◌∙◌}
use Rattle.run_model.specs.declared.tasks.Task.{Task}
use Rattle.state_renewal.specs.Marks.{is_flagged}
use Rattle.state_renewal.specs.Renewed.{new_number}
use Rattle.state_renewal.proofs.renewed_rows.task_renumbered.Goals as goal

pub returns-clause-value : goal.returns-clause-value
returns-clause-value g c =
    let group = c.number.result in
    let link = c.link_renumbered.result in
    ap (λ (r : Task). record r { group = group; retry_of = link }) c.task_row-view.ensures.value
    ∙ ap (λ n. record c.args.row.now { group = n; retry_of = link }) c.number.ensures.value
    ∙ ap (λ o. record c.args.row.now {
      group = new_number (is_flagged c.args.stay.now) c.args.row.now.group;
      retry_of = o;
    }) c.link_renumbered.ensures.value
