use Rattle.run_model.proofs.Common.{ap, ◌∙◌, group_look_of}
use Rattle.run_session.specs.Shown.{shown}
use Rattle.run_session.proofs.states.State.group.Goals as goal

pub returns : goal.returns
returns g c =
    let p = c.args.self.now in
    c.result.ensures p.count p.tree
    ∙ ap (λ w. group_look_of (shown p.count p.tree w) c.args.group) c.groups.ensures
