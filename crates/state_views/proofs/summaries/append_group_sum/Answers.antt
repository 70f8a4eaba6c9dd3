use Rattle.std.proofs.Common.{◌++◌, ◌∙◌, List, Option, [], ap, ℕ}
use Rattle.std.specs.Option.{option_map_or}
use Rattle.run_model.specs.declared.answers.GroupLook.{GroupLook}
use Rattle.run_model.specs.declared.answers.Look.{Look}
use Rattle.run_model.specs.Questions.{look_of}
use Rattle.state_views.specs.declared.summary_lines.Phases.{Phases}
use Rattle.state_views.specs.Summaries.{group_summary, phases_of}
use Rattle.state_views.proofs.summaries.append_group_sum.Goals as goal

pub returns-in-Some-look : goal.returns-in-Some-look
returns-in-Some-look g c =
    let p = c.args.state.now in
    let n = c.args.number in
    let group = c.in-Some.group in
    let phases = phases_of p n in
    let Of : Option Look → List ℕ = λ look. option_map_or (group_summary n group phases) look [] in
    let Line : Option GroupLook → List ℕ = λ found. option_map_or
    (λ x. option_map_or (group_summary n x phases) (look_of p x.scope) []) found [] in
    c.append_group_summary.ensures.items
    ∙ ap (λ (t : List ℕ). c.args.buffer.now.items ++ t)
    (ap (λ (s : Phases). group_summary n group s c.in-Some-look.scope) c.phases_of-phases.ensures
    ∙ ap Of c.in-Some-look.ensures.look
    ∙ ap Line c.in-Some.ensures)
