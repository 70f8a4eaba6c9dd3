-- The steps that open a night, and those in which a group is added to it.
use Rattle.std.specs.Prelude.{ℕ, zero, suc, nat_le, Bool, false, if◌then◌else◌, List, [], ◌∷◌, ◌++◌}
use Rattle.std.specs.Prelude.{codes, length, Option, None, is_none, slice_get, unwrap_or}
use Rattle.std.specs.Option.{option_map_or}
use Rattle.run_model.specs.declared.commands.Command.TheVariants as call
use Rattle.run_model.specs.declared.commands.Step.{Step}
use Rattle.run_model.specs.declared.commands.Step.TheVariants as step
use Rattle.run_model.specs.declared.commands.Wish.TheVariants as wish
use Rattle.run_model.specs.declared.tasks.Outcome.TheVariants as outcome
use Rattle.run_model.specs.State.{State}
use Rattle.run_model.specs.Tasks.{has_stage, is_fresh}
use Rattle.std.specs.Fmt.{decimal}
use Rattle.drive_nights.specs.declared.names.Role.TheVariants as role
use Rattle.drive_nights.specs.declared.untils.Until.{Until}
use Rattle.drive_nights.specs.Names.{free_name, role_name}
use Rattle.drive_nights.specs.Nights.{base_of, name_at}
use Rattle.drive_nights.specs.Rooms.{kept_base, room_steps, scope_steps}

-- ---- tasks that were never started

-- Task n is started and withdrawn.
abbrev pub withdrawal : ℕ → List Step
withdrawal n = step.Start ∷ step.Finish n (outcome.Failure (codes "withdrawn")) ∷ []

-- It is, if it was never started.
abbrev pub withdrawn_if : Bool → ℕ → List Step
withdrawn_if fresh n = if fresh then withdrawal n else []

-- Each task below this number that was submitted and not started is withdrawn, in this order.
abbrev pub withdrawals_below : State → ℕ → List Step
withdrawals_below p zero = []
withdrawals_below p (suc n) =
    withdrawals_below p n ++ withdrawn_if (has_stage is_fresh p.work n) n

-- ---- the scopes of all groups together

-- The name of a new top of a night, and the name of the base that comes with it.
abbrev pub new_top : State → ℕ → List ℕ
new_top p n = free_name p (codes "night") n

abbrev pub new_base : State → ℕ → List ℕ
new_base p n = if nat_le n 1 then new_top p n else role_name (new_top p n) role.Round

-- A night gets a new top. In later nights there is a scope with the night's number below it.
abbrev pub top_steps : State → ℕ → Option Until → List Step
top_steps p n all =
    scope_steps (new_top p n) (codes "root") all
    ++ (if nat_le n 1 then []
    else step.Command (call.Derive (new_base p n) (new_top p n)
    (wish.Value (codes "night") (decimal n))) ∷ [])

-- The top of a night is made if there is none, or if its deadline is another one now.
abbrev pub base_steps : State → ℕ → (all : Option Until) → List Step
base_steps p n all = if is_none (kept_base p n all) then top_steps p n all else []

-- The name of the scope below which those of the groups are made: of the base that is kept, or of
-- the new one.
abbrev pub base_named : State → ℕ → (kept : Option ℕ) → List ℕ
base_named p n kept = option_map_or (name_at p) kept (new_base p n)

abbrev pub base_name : State → ℕ → (all : Option Until) → List ℕ
base_name p n all = base_named p n (kept_base p n all)

-- ---- groups

-- The deadline of group g of a plan.
abbrev pub until_at : List (Option Until) → ℕ → Option Until
until_at untils g = unwrap_or (slice_get untils g) None

-- What the groups of a plan below this number need.
abbrev pub rooms_below : State → ℕ → (base : List ℕ) → (moved : Bool) → (groups : List (List ℕ))
    → (untils : List (Option Until)) → ℕ → List Step
rooms_below p n base moved groups untils zero = []
rooms_below p n base moved groups untils (suc g) =
    rooms_below p n base moved groups untils g
    ++ option_map_or (λ group. room_steps p n base moved group (until_at untils g))
    (slice_get groups g) []

-- ---- an opening

-- The steps that open night n for these groups.
abbrev pub opening_of : State → ℕ → (groups : List (List ℕ)) → (untils : List (Option Until))
    → (all : Option Until) → List Step
opening_of p n groups untils all =
    withdrawals_below p (length p.work.tasks) ++ base_steps p n all
    ++ rooms_below p n (base_name p n all) (is_none (kept_base p n all)) groups untils
    (length groups)
    ++ step.Flush ∷ []

-- The steps in which a group is added to a night that is under way.
abbrev pub growth_of : State → ℕ → (group : List ℕ) → Option Until → List Step
growth_of p n group until =
    room_steps p n (option_map_or (name_at p) (base_of p n) (codes "root")) false group until
