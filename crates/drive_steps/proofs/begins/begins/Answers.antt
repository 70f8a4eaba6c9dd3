use Rattle.std.proofs.Common.{◌<◌, ◌∙◌, List, ap, length, rules, subst, sym, ℕ}
use Rattle.std.specs.List.{All}
use Rattle.night_plan.specs.Choices.{IsChoice}
use Rattle.night_plan.specs.declared.choices.Choice.{Choice}
use Rattle.night_plan.specs.Nights.{Night, night}
use Rattle.drive_steps.proofs.Choosing.{Moves, by_rows, chosen_within}
use Rattle.drive_steps.proofs.begins.begins.Goals as goal

pub choose-requires-clause-facts : goal.choose-requires-clause-facts
choose-requires-clause-facts g c = record {
  known = c.in_ok-facts.ensures.sized.known;
  done = c.in_ok-facts.ensures.sized.done;
  sizes = ap length c.in_ok-own.ensures.items ∙ c.requires.sized;
}

pub row_of-requires-clause-within : goal.row_of-requires-clause-within
row_of-requires-clause-within g c =
    subst (λ (xs : List ℕ). All (λ x. x < length c.args.plan.now.commands.items) xs)
    (sym c.as_slice.ensures.value)
    (chosen_within (night c.args.plan.now c.in_ok-facts.facts) c.get.result
    c.in_ok-own.own.items c.in_ok-choice.choice.commands.items
    c.in_ok-choice.ensures.chosen.chosen)

-- The choice is right by the rows of the store, and the night goes on.
abbrev IsRight : Night → (clock : ℕ) → (sizes : List ℕ) → Choice → Type 0
IsRight n clock sizes choice = IsChoice n clock sizes choice × Moves n clock sizes choice

pub returns : goal.returns
returns g c =
    let right = by_rows IsRight c.args.state.now c.args.ends.now c.args.plan.now c.args.names.now
    c.in_ok-facts.facts c.get.result c.in_ok-own.own.items c.args.sizes.now
    c.in_ok-choice.choice c.requires.named c.in_ok-facts.ensures
    (c.get.ensures.value ∙ c.clock.ensures) c.in_ok-own.ensures.items
    (c.in_ok-choice.ensures.chosen, c.in_ok-choice.ensures.moving) in
    record { chosen = right.0; steps = search rules; moving = right.1 }
