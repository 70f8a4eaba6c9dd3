-- The facts that the rows of a store show about the commands and groups of a plan, in one night.
use Rattle.std.specs.Prelude.{◌≡◌, ◌<◌, ℕ, ◌&&◌, Bool, false, List, length, Option, Some, None}
use Rattle.std.specs.Prelude.{slice_get}
use Rattle.std.specs.Option.{option_map_or}
use Rattle.std.specs.Str.{bytes_eq}
use Rattle.run_model.specs.Allowed.{takes_cause}
use Rattle.run_model.specs.Scopes.{is_done}
use Rattle.run_model.specs.State.{State}
use Rattle.run_model.specs.Tasks.{has_stage}
use Rattle.night_plan.specs.declared.commands.Command.{Command}
use Rattle.night_plan.specs.declared.commands.Plan.{Plan}
use Rattle.night_plan.specs.declared.facts.Facts.{Facts}
use Rattle.night_plan.specs.declared.facts.Known.{Known}
use Rattle.night_plan.specs.declared.facts.Phase.{Phase}
use Rattle.night_plan.specs.declared.facts.Phase.TheVariants.{Fresh}
use Rattle.night_plan.specs.Nights.{AreFacts}
use Rattle.night_drive.specs.declared.ends.Ends.{Ends}
use Rattle.night_drive.specs.declared.names.Names.{Names}
use Rattle.night_drive.specs.Names.{belongs, is_same, night_of}
use Rattle.night_drive.specs.Searches.{count_below, last_below}
use Rattle.night_drive.specs.Tries.{counts, has_failed, phase_by}

-- ---- one command

-- Group g of the store belongs to this night, and to the plan's group of this name.
abbrev pub is_owned : State → (night : Option (List ℕ)) → (group : List ℕ) → ℕ → Bool
is_owned p night group g =
    option_map_or (λ row. belongs group row.name && is_same (night_of p row.scope) night)
    (slice_get p.work.groups g) false

-- Task n is a try of the command with this key, in a group of this name and in this night.
abbrev pub is_try : State → (night : Option (List ℕ)) → (group key : List ℕ) → ℕ → Bool
is_try p night group key n =
    option_map_or (λ task. bytes_eq task.argument key
    && (counts task.stage && is_owned p night group task.group)) (slice_get p.work.tasks n) false

-- How far the last try of a command has come, if there is one. `ended` says when it ended.
abbrev pub phase_after : State → (ended : ℕ → ℕ) → Option ℕ → Phase
phase_after p ended None = Fresh
phase_after p ended (Some n) =
    option_map_or (λ task. phase_by (ended n) task.stage) (slice_get p.work.tasks n) Fresh

-- The facts about a command: how far its last try has come, and how many of its tries have failed.
-- No row says that the command itself is canceled, since a cancel is the end of a try.
abbrev pub known_of :
    State → (ended : ℕ → ℕ) → (night : Option (List ℕ)) → (group key : List ℕ) → Known
known_of p ended night group key = record {
  phase = phase_after p ended (last_below (is_try p night group key) (length p.work.tasks));
  failures = count_below (λ n. is_try p night group key n && has_stage has_failed p.work n)
      (length p.work.tasks);
  canceled = false;
}

-- ---- one group

-- Scope s belongs to this night, and to the plan's group of this name. A command may give a cause
-- to it. (The group's other scopes hold its deadline, or a value.)
abbrev pub is_scope : State → (night : Option (List ℕ)) → (group : List ℕ) → ℕ → Bool
is_scope p night group s =
    option_map_or (λ row. takes_cause row.kind
    && (belongs group row.name && is_same (night_of p s) night)) (slice_get p.tree.scopes s) false

-- A group is done if its last scope is: canceled, or past its deadline.
abbrev pub is_over : State → (night : Option (List ℕ)) → (group : List ℕ) → Bool
is_over p night group =
    option_map_or (is_done p.tree.scopes)
    (last_below (is_scope p night group) (length p.tree.scopes)) false

-- ---- a plan

-- When task n ended.
abbrev pub moment_of : Ends → ℕ → ℕ
moment_of ends n =
    option_map_or (λ known. option_map_or (λ moment. moment) known ends.otherwise)
    (slice_get ends.moments.items n) ends.otherwise

-- Each group and each command of the plan has a name.
pub record AreNames (plan : Plan) (names : Names) : Type 0 where
  pub groups : length names.groups.items ≡ length plan.groups.items
  pub keys : length names.keys.items ≡ length plan.commands.items

-- Command c of the plan is this one. It has a key, and its group has a name.
pub record IsCalled (names : Names) (commands : List Command) (c : ℕ) (command : Command)
    (group key : List ℕ) : Type 0 where
  pub is : slice_get commands c ≡ Some command
  pub group_is : slice_get names.groups.items command.group ≡ Some group
  pub key_is : slice_get names.keys.items c ≡ Some key

-- The facts about each command below this number are those that its rows show.
abbrev pub AreKnownTo : ℕ → State → Ends → Names → List Command → List Known → Type 0
AreKnownTo most p ends names commands known =
    (c : ℕ) (command : Command) (group key : List ℕ) → c < most
    → IsCalled names commands c command group key
    → slice_get known c ≡ Some (known_of p (moment_of ends) names.night group key)

-- Whether each of these groups is done is what its rows show.
abbrev pub AreOverTo : ℕ → State → Names → List Bool → Type 0
AreOverTo most p names done =
    (g : ℕ) (group : List ℕ) → g < most → slice_get names.groups.items g ≡ Some group
    → slice_get done g ≡ Some (is_over p names.night group)

-- These are the facts that the rows of a state show about a plan in one night.
pub record IsSeen (p : State) (ends : Ends) (plan : Plan) (names : Names) (facts : Facts)
    : Type 0 where
  pub sized : AreFacts plan facts
  pub known : AreKnownTo (length plan.commands.items) p ends names plan.commands.items
      facts.known.items
  pub done : AreOverTo (length plan.groups.items) p names facts.done.items
  pub sizes : facts.sizes.items ≡ plan.pools.items
