use Rattle.run_model.proofs.Common.{ℕ, ap, ◌∙◌, State}
use Rattle.run_crew.specs.Desks.{DeskView}
use Rattle.run_crew.proofs.desks.Desk.new.Goals as goal

pub returns-clause-desk : goal.returns-clause-desk
returns-clause-desk g c =
    let at : ℕ → DeskView _ = λ n. record { book = c.args.book; since = n } in
    ap at (c.count.ensures.count ∙ ap (λ (p : State). p.count) c.state.ensures.state)
