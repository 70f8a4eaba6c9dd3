-- Which living tries have to stop, and why.
use Rattle.std.specs.Prelude.{◌≡◌, ◌↔◌, ◌==◌, ◌&&◌, ◌||◌, ℕ, Bool, not, List, [], ◌∷◌, Option}
use Rattle.std.specs.Prelude.{Contains, codes, filter, find, length, map, unwrap_or}
use Rattle.std.specs.List.{list_any}
use Rattle.std.specs.Option.{option_and_then, option_map, option_or}
use Rattle.run_model.specs.Scopes.{cause_of}
use Rattle.run_model.specs.State.{State}
use Rattle.night_plan.specs.declared.commands.Group.{Group as GroupLine}
use Rattle.night_plan.specs.declared.commands.Plan.{Plan}
use Rattle.night_plan.specs.Nights.{Night, at, cancels, is_spent}
use Rattle.night_plan.specs.Plans.{is_of}
use Rattle.night_plan.specs.Sessions.{after_all}
use Rattle.night_plan.specs.Stops.{MustStop}
use Rattle.night_plan.specs.declared.facts.Known.{Known}
use Rattle.night_plan.specs.Turns.{Turn, Cancel, all_turned, is_among}
use Rattle.night_drive.specs.declared.ends.Ends.{Ends}
use Rattle.night_drive.specs.declared.names.Names.{Names}
use Rattle.night_drive.specs.PlanTurns.{night_in}
use Rattle.night_drive.specs.Searches.{last_below}
use Rattle.night_drive.specs.Seen.{is_over, is_scope}
use Rattle.drive_steps.specs.declared.cancels.CommandCancel.{CommandCancel}
use Rattle.drive_steps.specs.declared.reported.Begun.{Begun}
use Rattle.drive_steps.specs.declared.stops.Stop.{Stop}
use Rattle.drive_steps.specs.Errors.{error_at, first_below}
use Rattle.drive_steps.specs.Starts.{group_of, last_of}

-- The turn in which a command itself is canceled.
abbrev pub turn_of : CommandCancel → Turn
turn_of cancel = Cancel cancel.command

-- The night in which these commands are canceled, besides what the store shows.
abbrev pub canceled_night : State → Ends → Plan → Names → List CommandCancel → Night
canceled_night p ends plan names canceled =
    after_all (night_in p ends plan names) (map turn_of canceled)

-- The facts about all commands, with these ones canceled.
abbrev pub marked : List Known → List CommandCancel → List Known
marked known [] = known
marked known (cancel ∷ canceled) = marked (all_turned (turn_of cancel) 0 known) canceled

-- Why command c was canceled itself.
abbrev pub own_why : List CommandCancel → ℕ → Option (List ℕ)
own_why canceled c =
    option_map (λ (cancel : CommandCancel). cancel.why)
    (find (λ (cancel : CommandCancel). cancel.command == c) canceled)

-- Why the last scope of a group is done.
abbrev pub group_why : State → (night : Option (List ℕ)) → (group : List ℕ) → Option (List ℕ)
group_why p night group =
    option_and_then (cause_of p.tree.scopes)
    (last_below (is_scope p night group) (length p.tree.scopes))

-- Command d is one of the group of command c, and has failed for good.
abbrev pub has_cut : Night → (c d : ℕ) → Bool
has_cut n c d =
    at n d (λ command fact. is_of n.commands command.group c && is_spent n.done command fact)

-- The error of the first command that has failed for good in the group of command c.
abbrev pub failure_why : State → Names → Night → (c : ℕ) → Option (List ℕ)
failure_why p names n c =
    option_and_then (λ d. option_and_then (error_at p) (last_of p names n.commands d))
    (first_below (has_cut n c) (length n.commands))

-- Why command c has to stop in this night: it was canceled, or its group is done, or a failure
-- cancels its group. (The words at the end stand for an error that the store doesn't have.)
abbrev pub why_of : State → Names → Night → List CommandCancel → (c : ℕ) → List ℕ
why_of p names n canceled c =
    unwrap_or (option_or (own_why canceled c)
    (option_or (group_why p names.night (group_of names n.commands c)) (failure_why p names n c)))
    (codes "a command failed")

-- The stop of a living try whose command has to stop: its task, and why.
abbrev pub stop_of : State → Names → Night → List CommandCancel → Begun → Stop
stop_of p names n canceled try =
    record { task = try.task; why = why_of p names n canceled try.command }

-- The tries of these commands among some others.
abbrev pub tries_of : (commands : List ℕ) → List Begun → List Begun
tries_of commands = filter (λ (try : Begun). is_among try.command commands)

-- These are the stops of the living tries whose commands have to stop: one for each of these tries,
-- in their order, and no others.
pub record AreStops (p : State) (ends : Ends) (plan : Plan) (names : Names)
    (canceled : List CommandCancel) (living : List Begun) (stops : List Stop) : Type 0 where
  pub commands : List ℕ
  pub must : (c : ℕ) → Contains commands c
      ↔ MustStop (canceled_night p ends plan names canceled) c
  pub those : stops
      ≡ map (stop_of p names (canceled_night p ends plan names canceled) canceled)
      (tries_of commands living)

-- ---- for private functions: no public contract cites what follows

-- A command was canceled, a group is done, or a failure cancels a group. Otherwise nothing has to
-- stop.
abbrev pub can_stop : State → Plan → Names → List CommandCancel → Bool
can_stop p plan names canceled =
    not (length canceled == 0)
    || (list_any (is_over p names.night) names.groups.items
    || list_any (λ (group : GroupLine). cancels group.way) plan.groups.items)
