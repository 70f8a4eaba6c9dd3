-- The steps in which commands begin.
use Rattle.std.specs.Prelude.{ℕ, ◌==◌, ◌&&◌, Bool, false, if◌then◌else◌, List, [], ◌∷◌, codes}
use Rattle.std.specs.Prelude.{length, Option, Some, None, slice_get, unwrap_or}
use Rattle.std.specs.Option.{option_map_or}
use Rattle.run_model.specs.Allowed.{allowed}
use Rattle.run_model.specs.declared.commands.Command.{Command as Call}
use Rattle.run_model.specs.declared.commands.Command.TheVariants as call
use Rattle.run_model.specs.declared.commands.Step.{Step}
use Rattle.run_model.specs.declared.commands.Step.TheVariants as step
use Rattle.run_model.specs.Event as event
use Rattle.run_model.specs.State.{State}
use Rattle.night_plan.specs.declared.commands.Command.{Command}
use Rattle.night_drive.specs.declared.names.Names.{Names}
use Rattle.night_drive.specs.Searches.{last_below}
use Rattle.night_drive.specs.Seen.{is_try}
use Rattle.drive_steps.specs.Rooms.{last_group, name_of}

-- Task n is in group g of the store.
abbrev pub is_in : State → (g n : ℕ) → Bool
is_in p g n = option_map_or (λ task. task.group == g) (slice_get p.work.tasks n) false

-- The store allows a retry of task n, which is in group g: the task was interrupted, and no task is
-- a retry of it.
abbrev pub can_retry : State → (g n : ℕ) → Bool
can_retry p g n = allowed p (event.Retry n) && is_in p g n

-- What submits a new task with this key in group g.
abbrev pub new_task : State → (g : ℕ) → (key : List ℕ) → Call
new_task p g key = call.Go (name_of p g) (codes "sh") key

-- What submits the next task with this key: a retry of the last try if there can be one in group g,
-- or else a new task.
abbrev pub next_task : State → (g : ℕ) → (key : List ℕ) → Option ℕ → Call
next_task p g key None = new_task p g key
next_task p g key (Some n) = if can_retry p g n then call.Retry n else new_task p g key

-- The name of the group of command c, and the key of the command.
abbrev pub group_of : Names → List Command → ℕ → List ℕ
group_of names commands c =
    option_map_or (λ (command : Command). unwrap_or (slice_get names.groups.items command.group) [])
    (slice_get commands c) []

abbrev pub key_of : Names → ℕ → List ℕ
key_of names c = unwrap_or (slice_get names.keys.items c) []

-- The last try of command c.
abbrev pub last_of : State → Names → List Command → ℕ → Option ℕ
last_of p names commands c =
    last_below (is_try p names.night (group_of names commands c) (key_of names c))
    (length p.work.tasks)

-- What submits the next task of the command with this key, in a group of this name.
abbrev pub next_of : State → (night : Option (List ℕ)) → (group key : List ℕ) → Call
next_of p night group key =
    next_task p (unwrap_or (last_group p night group) 0) key
    (last_below (is_try p night group key) (length p.work.tasks))

-- The same of command c of the plan.
abbrev pub next_try : State → Names → List Command → ℕ → Call
next_try p names commands c =
    next_of p names.night (group_of names commands c) (key_of names c)

-- For each command its next task and the start of that, and at the end a flush.
abbrev pub row_of : State → Names → List Command → (chosen : List ℕ) → List Step
row_of p names commands [] = step.Flush ∷ []
row_of p names commands (c ∷ chosen) =
    step.Command (next_try p names commands c) ∷ step.Start ∷ row_of p names commands chosen
