-- The answers to an executor that asks with which errors commands have failed.
use Rattle.std.specs.Prelude.{◌++◌, ℕ, Bool, List, Option, slice_get}
use Rattle.std.specs.List.{filter_map}
use Rattle.std.specs.Option.{option_and_then, option_map}
use Rattle.run_model.specs.State.{State}
use Rattle.night_plan.specs.declared.commands.Command.{Command}
use Rattle.night_plan.specs.declared.commands.Plan.{Plan}
use Rattle.night_drive.specs.declared.names.Names.{Names}
use Rattle.drive_lines.specs.declared.orders.Order.{Order}
use Rattle.drive_lines.specs.declared.orders.Order.TheVariants as order
use Rattle.drive_parts.specs.declared.heard.Heard.{Heard}
use Rattle.drive_steps.specs.Errors.{first_error, last_error}

-- The error of command c, by the name of its group and by its own key, if its last try in this
-- night has failed.
abbrev pub error_of : State → Plan → Names → (c : ℕ) → Option (List ℕ)
error_of p plan names c =
    option_and_then (λ (command : Command). option_and_then (λ group. option_and_then
    (last_error p names.night group) (slice_get names.keys.items c))
    (slice_get names.groups.items command.group)) (slice_get plan.commands.items c)

-- The first error of group g, by its name, if it has one in this night.
abbrev pub first_of : State → Names → (g : ℕ) → Option (List ℕ)
first_of p names g = option_and_then (first_error p names.night) (slice_get names.groups.items g)

-- The lines that answer, if there is something to answer.
abbrev pub error_line : State → Plan → Names → (c : ℕ) → Option Order
error_line p plan names c = option_map (order.Error c) (error_of p plan names c)

abbrev pub first_line : State → Names → (g : ℕ) → Option Order
first_line p names g = option_map (order.First g) (first_of p names g)

-- ---- the questions of a round

-- What the executor asks in a round: how each command stands; for the errors of these commands; and
-- for the first errors of these groups.
pub record Questions : Type 0 where
  pub standings : Bool
  pub asks : List ℕ
  pub firsts : List ℕ

abbrev pub questions_of : Heard → Questions
questions_of heard = record {
  standings = heard.asked;
  asks = heard.asks.items;
  firsts = heard.firsts.items;
}

-- The lines that answer the questions about errors: a line for each question that has an answer,
-- first of commands and then of groups, each kind in the order of the questions.
abbrev pub error_lines : State → Plan → Names → Questions → List Order
error_lines p plan names asked =
    filter_map (error_line p plan names) asked.asks
    ++ filter_map (first_line p names) asked.firsts
