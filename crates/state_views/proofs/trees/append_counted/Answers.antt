use Rattle.std.proofs.Common.{◌++◌, ◌∙◌, List, Option, [], ap, ℕ}
use Rattle.std.specs.Option.{option_map_or}
use Rattle.run_model.specs.declared.answers.GroupLook.{GroupLook}
use Rattle.state_views.specs.Branches.{tree_group}
use Rattle.state_views.specs.declared.summary_lines.Phases.{Phases}
use Rattle.state_views.specs.Summaries.{phases_of}
use Rattle.state_views.proofs.trees.append_counted.Goals as goal

pub returns-in-Some : goal.returns-in-Some
returns-in-Some g c =
    let p = c.args.state.now in
    let n = c.args.number in
    let Line : Option GroupLook → List ℕ = λ found.
    option_map_or (λ x. tree_group n x (phases_of p n)) found [] in
    c.append_tree_group.ensures.items
    ∙ ap (λ (t : List ℕ). c.args.buffer.now.items ++ t)
    (ap (λ (s : Phases). tree_group n c.in-Some.group s) c.phases_of-phases.ensures
    ∙ ap Line c.in-Some.ensures)
