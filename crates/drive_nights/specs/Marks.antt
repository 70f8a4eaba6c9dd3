-- The mark of a night that has ended.
use Rattle.std.specs.Prelude.{ℕ, if◌then◌else◌, List, codes, Option, Some, None}
use Rattle.std.specs.Fmt.{decimal}
use Rattle.std.specs.Option.{option_and_then}
use Rattle.run_model.specs.declared.commands.Command.TheVariants as call
use Rattle.run_model.specs.declared.commands.Step.{Step}
use Rattle.run_model.specs.declared.commands.Step.TheVariants as step
use Rattle.run_model.specs.declared.commands.Wish.TheVariants as wish
use Rattle.run_model.specs.State.{State}
use Rattle.run_model.specs.Texts.{is_name}
use Rattle.drive_nights.specs.declared.names.Role.TheVariants as role
use Rattle.drive_nights.specs.Names.{role_name}
use Rattle.drive_nights.specs.Nights.{base_of, name_at, top_above}

-- The step that marks a night as ended, given the name of its top: a value below the top says at
-- which time of the store's clock it ended.
abbrev pub mark_at : State → (top : List ℕ) → Option Step
mark_at p top =
    if is_name (role_name top role.Ended)
    then Some (step.Command (call.Derive (role_name top role.Ended) top
    (wish.Value (codes "ended") (decimal p.tree.clock))))
    else None

-- The step for night n. There is none if the night has no top.
abbrev pub mark_of : State → ℕ → Option Step
mark_of p n = option_and_then (λ s. mark_at p (name_at p (top_above p n s))) (base_of p n)
