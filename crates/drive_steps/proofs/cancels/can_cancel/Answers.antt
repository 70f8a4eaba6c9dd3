use Rattle.std.proofs.Common.{◌∙◌, Option, ap, sym, true, ℕ}
use Rattle.std.specs.Option.{option_map_or}
use Rattle.drive_steps.specs.Cancels.{is_open_after}
use Rattle.drive_steps.proofs.cancels.can_cancel.Goals as goal

pub returns-in-Some : goal.returns-in-Some
returns-in-Some g c =
    c.is_open_after.ensures
    ∙ ap (λ (o : Option ℕ). option_map_or (is_open_after c.args.state.now c.args.heard.now) o true)
    (sym c.in-Some.is ∙ c.last_of.ensures)

pub returns-in-None : goal.returns-in-None
returns-in-None g c =
    ap (λ (o : Option ℕ). option_map_or (is_open_after c.args.state.now c.args.heard.now) o true)
    (sym c.in-None.is ∙ c.last_of.ensures)
