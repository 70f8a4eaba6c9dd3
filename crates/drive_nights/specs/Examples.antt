-- Nights that are opened in a store with the rows of two nights.
use Rattle.std.specs.Prelude.{ℕ, List, [], ◌∷◌, Option, Some, None, codes, fold}
use Rattle.run_model.specs.declared.commands.Command.TheVariants as call
use Rattle.run_model.specs.declared.commands.Step.{Step}
use Rattle.run_model.specs.declared.commands.Step.TheVariants as step
use Rattle.run_model.specs.declared.commands.Wish.TheVariants as wish
use Rattle.run_model.specs.declared.layouts.Layout.TheVariants.{Small}
use Rattle.run_model.specs.declared.scopes.Kind.TheVariants as kind
use Rattle.run_model.specs.declared.tasks.Outcome.TheVariants as outcome
use Rattle.run_model.specs.Event as event
use Rattle.run_model.specs.Session.{Session, opened}
use Rattle.run_model.specs.State.{State}
use Rattle.run_model.specs.Step as change
use Rattle.drive_nights.specs.declared.untils.Until.{Until}
use Rattle.drive_nights.specs.Rooms.{derive}

-- A plan has two groups.
abbrev pub two_groups : List (List ℕ)
two_groups = codes "disks" ∷ codes "tapes" ∷ []

-- A deadline with these words.
abbrev pub until_of : (moment : ℕ) → (words : List ℕ) → Option Until
until_of moment words = Some (record { moment = moment; words = words })

abbrev pub none_of_two : List (Option Until)
none_of_two = None ∷ None ∷ []

-- In the second night both groups keep their scopes, so nothing is made.
abbrev pub going_on : List Step
going_on = step.Start ∷ step.Finish 8 (outcome.Failure (codes "withdrawn")) ∷ step.Flush ∷ []

-- The disks have another deadline in the same night. They get a new scope and a new group of the
-- store, below the base of the night. The tapes were canceled, and get nothing.
abbrev pub later_disks : List Step
later_disks =
    step.Start ∷ step.Finish 8 (outcome.Failure (codes "withdrawn"))
    ∷ derive (codes "disks--2-3--until") (codes "night--2--round")
    (wish.Deadline 9500 (Some (codes "within 4h")))
    ∷ derive (codes "disks--2-3") (codes "disks--2-3--until") wish.Cause
    ∷ derive (codes "disks--2-3--said") (codes "disks--2-3")
    (wish.Value (codes "deadline") (codes "within 4h"))
    ∷ step.Command (call.Bare (codes "disks--2-3") (codes "disks--2-3"))
    ∷ step.Flush ∷ []

-- The third night gets a top with its number below it, and for each group a scope and a group of
-- the store.
abbrev pub third_night : List Step
third_night =
    step.Start ∷ step.Finish 8 (outcome.Failure (codes "withdrawn"))
    ∷ derive (codes "night--3") (codes "root") wish.Cause
    ∷ derive (codes "night--3--round") (codes "night--3") (wish.Value (codes "night") (codes "3"))
    ∷ derive (codes "disks--3") (codes "night--3--round") wish.Cause
    ∷ step.Command (call.Bare (codes "disks--3") (codes "disks--3"))
    ∷ derive (codes "tapes--3") (codes "night--3--round") wish.Cause
    ∷ step.Command (call.Bare (codes "tapes--3") (codes "tapes--3"))
    ∷ step.Flush ∷ []

-- What is left of the first night is ended: a group and the top.
abbrev pub end_of_first : List Step
end_of_first =
    step.Command (call.Wait (codes "disks"))
    ∷ step.Command (call.Cancel (codes "night") (Some (codes "over"))) ∷ []

-- The same of both nights.
abbrev pub end_of_both : List Step
end_of_both =
    step.Command (call.Wait (codes "disks")) ∷ step.Command (call.Wait (codes "disks--2"))
    ∷ step.Command (call.Wait (codes "tapes--2")) ∷ step.Command (call.Wait (codes "disks--2-2"))
    ∷ step.Command (call.Cancel (codes "night") (Some (codes "over")))
    ∷ step.Command (call.Cancel (codes "night--2") (Some (codes "over"))) ∷ []

-- The first night of a new store, with a deadline for all groups together.
abbrev pub first_night : List Step
first_night =
    derive (codes "night--until") (codes "root") (wish.Deadline 600 (Some (codes "06:00")))
    ∷ derive (codes "night") (codes "night--until") wish.Cause
    ∷ derive (codes "night--said") (codes "night") (wish.Value (codes "deadline") (codes "06:00"))
    ∷ derive (codes "disks") (codes "night") wish.Cause
    ∷ step.Command (call.Bare (codes "disks") (codes "disks"))
    ∷ derive (codes "tapes") (codes "night") wish.Cause
    ∷ step.Command (call.Bare (codes "tapes") (codes "tapes"))
    ∷ step.Flush ∷ []

-- A store that was just formatted and opened.
abbrev pub new_store : Session
new_store = opened Small

-- A store whose first night has a deadline for all groups together, and no group.
abbrev pub dated : State
dated =
    fold change.step new_store.state (event.Derive (codes "night--until") 0 (kind.Deadline 600 None)
    ∷ event.Derive (codes "night") 1 kind.Cause ∷ [])

-- The end of that night.
abbrev pub end_of_dated : List Step
end_of_dated =
    step.Command (call.Cancel (codes "night") (Some (codes "over")))
    ∷ step.Command (call.Cancel (codes "night--until") None) ∷ []

-- A store in which the top of the second night stands below that of the first one.
abbrev pub nested : State
nested =
    fold change.step new_store.state (event.Derive (codes "night") 0 kind.Cause
    ∷ event.Derive (codes "night--2") 1 kind.Cause
    ∷ event.Derive (codes "night--2--round") 2 (kind.Value (codes "night") (codes "2")) ∷ [])

-- A store whose first night has a deadline for all groups together. The disks have an earlier one.
abbrev pub timed : State
timed =
    fold change.step new_store.state (event.Derive (codes "night--until") 0 (kind.Deadline 600 None)
    ∷ event.Derive (codes "night") 1 kind.Cause
    ∷ event.Derive (codes "disks--until") 2 (kind.Deadline 400 None)
    ∷ event.Derive (codes "disks") 3 kind.Cause ∷ [])

-- The same store at this moment.
abbrev pub timed_at : (moment : ℕ) → State
timed_at moment = change.step timed (event.Advance moment)
