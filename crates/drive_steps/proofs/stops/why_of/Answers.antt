use Rattle.std.proofs.Common.{◌∙◌, List, Option, ap, codes, sym, ℕ}
use Rattle.std.specs.Option.{option_or}
use Rattle.std.specs.Prelude.{unwrap_or}
use Rattle.night_plan.specs.Nights.{night}
use Rattle.drive_steps.specs.Starts.{group_of}
use Rattle.drive_steps.specs.Stops.{failure_why, group_why}
use Rattle.drive_steps.proofs.stops.why_of.Goals as goal

pub returns-in-Some : goal.returns-in-Some
returns-in-Some g c =
    let names = c.args.names.now in
    let p = c.args.state.now in
    let n = night c.args.plan.now c.args.facts.now in
    let by : Option (List ℕ) = option_or (group_why p names.night
    (group_of names c.args.plan.now.commands.items c.args.c)) (failure_why p names n c.args.c) in
    ap (λ (o : Option (List ℕ)). unwrap_or (option_or o by) (codes "a command failed"))
    (sym c.in-Some.is ∙ c.own_why.ensures)

pub returns-in-None : goal.returns-in-None
returns-in-None g c =
    let names = c.args.names.now in
    let p = c.args.state.now in
    let n = night c.args.plan.now c.args.facts.now in
    let by : Option (List ℕ) = option_or (group_why p names.night
    (group_of names c.args.plan.now.commands.items c.args.c)) (failure_why p names n c.args.c) in
    c.why_by_group.ensures
    ∙ ap (λ (o : Option (List ℕ)). unwrap_or (option_or o by) (codes "a command failed"))
    (sym c.in-None.is ∙ c.own_why.ensures)
