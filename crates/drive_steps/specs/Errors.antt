-- The errors with which commands have failed, as the rows of a store show them.
use Rattle.std.specs.Prelude.{ℕ, zero, suc, ◌==◌, ◌&&◌, Bool, false, if◌then◌else◌, List, length}
use Rattle.std.specs.Prelude.{Option, Some, None, slice_get}
use Rattle.std.specs.Option.{option_and_then, option_map_or, option_or}
use Rattle.std.specs.Str.{bytes_eq}
use Rattle.run_model.specs.declared.groups.Group.{Group}
use Rattle.run_model.specs.declared.tasks.Stage.{Stage}
use Rattle.run_model.specs.declared.tasks.Stage.TheVariants as stage
use Rattle.run_model.specs.declared.tasks.Task.{Task}
use Rattle.run_model.specs.State.{State}
use Rattle.night_drive.specs.Searches.{last_below}
use Rattle.night_drive.specs.Seen.{is_try}
use Rattle.night_drive.specs.Tries.{has_failed, is_cancel}

-- The error with which a try has failed. A cancel isn't one, and an interruption isn't one either.
abbrev pub failure_of : Stage → Option (List ℕ)
failure_of (stage.Failure error) = if is_cancel error then None else Some error
failure_of _ = None

-- The error with which task n has failed.
abbrev pub error_at : State → ℕ → Option (List ℕ)
error_at p n =
    option_and_then (λ (task : Task). failure_of task.stage) (slice_get p.work.tasks n)

-- ---- a command

-- The error of a command whose last try in this night has failed.
abbrev pub last_error : State → (night : Option (List ℕ)) → (group key : List ℕ)
    → Option (List ℕ)
last_error p night group key =
    option_and_then (error_at p)
    (last_below (is_try p night group key) (length p.work.tasks))

-- ---- a group

-- The least number below this one that passes the test.
abbrev pub first_below : (ℕ → Bool) → ℕ → Option ℕ
first_below test zero = None
first_below test (suc n) =
    option_or (first_below test n) (if test n then Some n else None)

-- Task n is the last try of a command of this group in this night, and it has failed.
abbrev pub is_failure : State → (night : Option (List ℕ)) → (group : List ℕ) → ℕ → Bool
is_failure p night group n =
    option_map_or (λ (task : Task). has_failed task.stage
    && option_map_or (λ m. m == n)
    (last_below (is_try p night group task.argument) (length p.work.tasks)) false)
    (slice_get p.work.tasks n) false

-- This is the first error of group g of the store.
abbrev pub is_first : State → (g : ℕ) → Option (List ℕ) → Bool
is_first p g error =
    option_map_or
    (λ (row : Group). option_map_or (λ first. option_map_or (bytes_eq first) error false)
    row.error false) (slice_get p.work.groups g) false

-- Task n is such a failure, and its error is the first one of its group of the store.
abbrev pub is_noted : State → (night : Option (List ℕ)) → (group : List ℕ) → ℕ → Bool
is_noted p night group n =
    option_map_or (λ (task : Task). is_first p task.group (error_at p n)
    && is_failure p night group n) (slice_get p.work.tasks n) false

-- The task whose error is the first one of a group of the plan: of its failures whose errors are
-- the first ones of their groups of the store, the one with the lowest number. If there is none, it
-- is the failure with the lowest number.
abbrev pub first_failure : State → (night : Option (List ℕ)) → (group : List ℕ) → Option ℕ
first_failure p night group =
    option_or (first_below (is_noted p night group) (length p.work.tasks))
    (first_below (is_failure p night group) (length p.work.tasks))

-- The first error of a group of the plan.
abbrev pub first_error : State → (night : Option (List ℕ)) → (group : List ℕ) → Option (List ℕ)
first_error p night group = option_and_then (error_at p) (first_failure p night group)
