-- Events that refer only to a part of a state, and the same events by the new numbers. Also whether
-- the names and rows of an event are still free.
use Rattle.std.specs.Prelude.{Bool, true, ◌&&◌, is_none}
use Rattle.run_model.specs.Event.{Event}
use Rattle.run_model.specs.Event as event
use Rattle.run_model.specs.Allowed.{has_room}
use Rattle.run_model.specs.State.{State, scope_named, group_named}
use Rattle.run_model.specs.Layouts.{most_scopes, most_tasks}
use Rattle.run_model.specs.declared.bounds.TheConstants.{MOST_GROUPS}
use Rattle.state_renewal.specs.Renewed.{Part, new_number}

-- The scope, the group or the task to which the event refers by its number is in the part.
abbrev pub names_part : Part → Event → Bool
names_part part (event.Derive name parent kind) = part.scopes parent
names_part part (event.Cancel s cause) = part.scopes s
names_part part (event.Advance moment) = true
names_part part (event.Group name parent) = part.scopes parent
names_part part (event.Bare name s) = part.scopes s
names_part part (event.SetLimit g limit) = part.groups g
names_part part (event.Go g job argument) = part.groups g
names_part part (event.TryGo g job argument) = part.groups g
names_part part (event.Retry n) = part.tasks n
names_part part (event.Start n) = part.tasks n
names_part part (event.Finish n outcome) = part.tasks n
names_part part (event.Wait g) = part.groups g
names_part part event.Restart = true

-- The same event, by the new numbers.
abbrev pub event_renumbered : Part → Event → Event
event_renumbered part (event.Derive name parent kind) =
    event.Derive name (new_number part.scopes parent) kind
event_renumbered part (event.Cancel s cause) = event.Cancel (new_number part.scopes s) cause
event_renumbered part (event.Advance moment) = event.Advance moment
event_renumbered part (event.Group name parent) = event.Group name (new_number part.scopes parent)
event_renumbered part (event.Bare name s) = event.Bare name (new_number part.scopes s)
event_renumbered part (event.SetLimit g limit) = event.SetLimit (new_number part.groups g) limit
event_renumbered part (event.Go g job argument) = event.Go (new_number part.groups g) job argument
event_renumbered part (event.TryGo g job argument) = event.TryGo
    (new_number part.groups g) job argument
event_renumbered part (event.Retry n) = event.Retry (new_number part.tasks n)
event_renumbered part (event.Start n) = event.Start (new_number part.tasks n)
event_renumbered part (event.Finish n outcome) = event.Finish (new_number part.tasks n) outcome
event_renumbered part (event.Wait g) = event.Wait (new_number part.groups g)
event_renumbered part event.Restart = event.Restart

-- The names that the event gives are free, and the rows that it makes fit.
abbrev pub has_place : State → Event → Bool
has_place p (event.Derive name parent kind) =
    is_none (scope_named p.tree name) && has_room (most_scopes p.tree.layout) p.tree.scopes
has_place p (event.Group name parent) =
    is_none (scope_named p.tree name) && is_none (group_named p.work name)
    && has_room (most_scopes p.tree.layout) p.tree.scopes
    && has_room MOST_GROUPS p.work.groups
has_place p (event.Bare name s) =
    is_none (group_named p.work name) && has_room MOST_GROUPS p.work.groups
has_place p (event.Go g job argument) = has_room (most_tasks p.work.layout) p.work.tasks
has_place p (event.TryGo g job argument) = has_room (most_tasks p.work.layout) p.work.tasks
has_place p (event.Retry n) = has_room (most_tasks p.work.layout) p.work.tasks
has_place p _ = true
