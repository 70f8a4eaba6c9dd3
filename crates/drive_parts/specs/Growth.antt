-- A plan that grows by the lines of a round.
use Rattle.std.specs.Prelude.{◌≡◌, ◌<◌, ◌≤◌, ◌+◌, ◌++◌, ◌∷◌, ℕ, true, List, [], Option, Some, None}
use Rattle.std.specs.Prelude.{length, map, slice_get, slice_index}
use Rattle.std.specs.List.{All, filter_map}
use Rattle.std.specs.Option.{is_some, option_map, option_to_list}
use Rattle.night_plan.specs.declared.commands.Command.{Command}
use Rattle.night_plan.specs.declared.commands.Group.{Group}
use Rattle.night_plan.specs.Choices.{takes_of}
use Rattle.night_plan.specs.Plans.{is_within}
use Rattle.plan_lines.specs.declared.lines.Outline.{Outline}
use Rattle.plan_lines.specs.declared.lines.PlanLine.{PlanLine}
use Rattle.plan_lines.specs.Commands.{Extends, IsOutlined}
use Rattle.drive_lines.specs.declared.reports.Report.{Report}
use Rattle.drive_lines.specs.declared.reports.Report.TheVariants as report
use Rattle.drive_nights.specs.declared.untils.Until.{Until}
use Rattle.drive_parts.specs.declared.growth.Growth.{Growth}
use Rattle.drive_parts.specs.declared.growth.Pending.{Pending}
use Rattle.drive_parts.specs.declared.plans.NightPlan.{NightPlan}
use Rattle.drive_parts.specs.Additions.{Listed, commands_in, group_of, groups_in, is_open, key_of}
use Rattle.drive_parts.specs.Additions.{listed, name_of, pool_of, untils_in, with_detail}
use Rattle.drive_parts.specs.Groups.{LacksUntil}
use Rattle.drive_parts.specs.Names.{HasKey, IsGroupName, groups_of}

-- ---- which lines a plan can grow by

-- How many groups a plan has after some lines, how many commands, and its pools.
abbrev pub groups_after : NightPlan → List Report → ℕ
groups_after old reports =
    length old.plan.groups.items + length (filter_map group_of reports)

abbrev pub commands_after : NightPlan → List Report → ℕ
commands_after old reports = length old.plan.commands.items + length (commands_in reports)

abbrev pub pools_after : NightPlan → List Report → List ℕ
pools_after old reports = old.plan.pools.items ++ filter_map pool_of reports

-- A plan with this many groups and commands, and with pools of these sizes, can grow by a command:
-- the command names only what exists, and takes no more of a pool than its size.
pub record CanGrowBy (groups commands : ℕ) (pools : List ℕ) (l : Listed) : Type 0 where
  pub own : l.outline.group < groups
  pub needs : All (λ need. is_within groups commands need.of ≡ true) l.needs
  pub takes : All (λ row. row.pool < length pools) l.takes
  pub fits : (p : ℕ) → takes_of l.takes p ≤ slice_index pools p

-- After these lines the plan can grow by a group with this name, which no other group has.
pub record MayAddGroup (old : NightPlan) (reports : List Report) (name : List ℕ) : Type 0 where
  pub allowed : IsGroupName name
  pub free : (g : ℕ) → slice_get (old.groups.items ++ filter_map name_of reports) g ≡ Some name
      → ⊥

-- After these lines the plan can grow by a command with this key, which no other command of its
-- group has.
pub record MayAddCommand (old : NightPlan) (reports : List Report) (group : ℕ) (key : List ℕ)
    : Type 0 where
  pub own : group < groups_after old reports
  pub free : (c : ℕ)
      → HasKey (groups_of old.plan.commands.items ++ groups_in reports)
      (old.keys.items ++ filter_map key_of reports) group key c
      → ⊥

-- A need or a take directly follows its command, or another need or take of it. With it the plan
-- can grow by the command, which comes after all others.
pub record MayAddDetail (old : NightPlan) (reports : List Report) (r : Report) : Type 0 where
  pub opened : is_open reports ≡ true
  pub before : List Listed
  pub last : Listed
  pub is : commands_in (reports ++ r ∷ []) ≡ before ++ last ∷ []
  pub can : CanGrowBy (groups_after old reports) (length old.plan.commands.items + length before)
      (pools_after old reports) last

-- ---- the plan as it has grown

-- The deadline of all groups together and the like are the same.
pub record StaysOf (n m : NightPlan) : Type 0 where
  pub first : m.plan.first ≡ n.plan.first
  pub all : m.all ≡ n.all
  pub next : m.next ≡ n.next

-- A plan has grown by exactly these lines, which come after all that it had before.
pub record HasGrown (old : NightPlan) (reports : List Report) (n : NightPlan) : Type 0 where
  pub groups : n.plan.groups.items ≡ old.plan.groups.items ++ filter_map group_of reports
  pub names : n.groups.items ≡ old.groups.items ++ filter_map name_of reports
  pub untils : n.untils.items ≡ old.untils.items ++ untils_in reports
  pub commands : map listed n.plan.commands.items
      ≡ map listed old.plan.commands.items ++ commands_in reports
  pub keys : n.keys.items ≡ old.keys.items ++ filter_map key_of reports
  pub pools : n.plan.pools.items ≡ pools_after old reports
  pub rest : StaysOf old n

-- All commands, and all keys, with the pending one.
abbrev pub all_commands : Growth → List Command
all_commands g =
    g.plan.plan.commands.items ++ option_to_list (option_map (λ p. p.command) g.pending)

abbrev pub all_keys : Growth → List (List ℕ)
all_keys g = g.plan.keys.items ++ option_to_list (option_map (λ p. p.key) g.pending)

-- The same, while needs and takes of the last command can come next.
pub record IsGrowing (old : NightPlan) (reports : List Report) (g : Growth) : Type 0 where
  pub groups : g.plan.plan.groups.items ≡ old.plan.groups.items ++ filter_map group_of reports
  pub names : g.plan.groups.items ≡ old.groups.items ++ filter_map name_of reports
  pub untils : g.plan.untils.items ≡ old.untils.items ++ untils_in reports
  pub commands : map listed (all_commands g)
      ≡ map listed old.plan.commands.items ++ commands_in reports
  pub keys : all_keys g ≡ old.keys.items ++ filter_map key_of reports
  pub pools : g.plan.plan.pools.items ≡ pools_after old reports
  pub pending : is_some g.pending ≡ is_open reports
  pub first : g.first ≡ length old.groups.items
  pub rest : StaysOf old g.plan

-- ---- for private functions: no public contract cites what follows

-- No command is pending.
pub record IsWhole (old : NightPlan) (reports : List Report) (g : Growth) : Type 0 where
  pub plan : HasGrown old reports g.plan
  pub pending : g.pending ≡ None
  pub first : g.first ≡ length old.groups.items

-- It hasn't grown yet.
pub record Begins (n : NightPlan) (g : Growth) : Type 0 where
  pub plan : g.plan ≡ n
  pub pending : g.pending ≡ None
  pub first : g.first ≡ length n.groups.items

-- The groups of a plan are the same, with their names and deadlines.
pub record GroupsStay (n m : NightPlan) : Type 0 where
  pub groups : m.plan.groups.items ≡ n.plan.groups.items
  pub names : m.groups ≡ n.groups
  pub untils : m.untils ≡ n.untils

-- The commands of a plan are the same, with their keys.
pub record CommandsStay (n m : NightPlan) : Type 0 where
  pub commands : m.plan.commands.items ≡ n.plan.commands.items
  pub keys : m.keys ≡ n.keys

-- The pending command is among the others.
pub record Closes (g h : Growth) : Type 0 where
  pub commands : h.plan.plan.commands.items ≡ all_commands g
  pub keys : h.plan.keys.items ≡ all_keys g
  pub pending : h.pending ≡ None
  pub first : h.first ≡ g.first
  pub groups : GroupsStay g.plan h.plan
  pub pools : h.plan.plan.pools.items ≡ g.plan.plan.pools.items
  pub rest : StaysOf g.plan h.plan

-- It is, for a plan and a command.
pub record HasPending (n : NightPlan) (p : Pending) (m : NightPlan) : Type 0 where
  pub commands : m.plan.commands.items ≡ n.plan.commands.items ++ p.command ∷ []
  pub keys : m.keys.items ≡ n.keys.items ++ p.key ∷ []
  pub groups : GroupsStay n m
  pub pools : m.plan.pools.items ≡ n.plan.pools.items
  pub rest : StaysOf n m

-- A plan has one more group, which has no deadline yet.
pub record HasNewGroup (group : Group) (name : List ℕ) (n m : NightPlan) : Type 0 where
  pub groups : m.plan.groups.items ≡ n.plan.groups.items ++ group ∷ []
  pub names : m.groups.items ≡ n.groups.items ++ name ∷ []
  pub untils : m.untils.items ≡ n.untils.items ++ None ∷ []
  pub commands : CommandsStay n m
  pub pools : m.plan.pools.items ≡ n.plan.pools.items
  pub rest : StaysOf n m

-- A plan has one more pool.
pub record HasNewPool (size : ℕ) (n m : NightPlan) : Type 0 where
  pub pools : m.plan.pools.items ≡ n.plan.pools.items ++ size ∷ []
  pub groups : GroupsStay n m
  pub commands : CommandsStay n m
  pub rest : StaysOf n m

-- Its last group has this deadline.
pub record HasNewUntil (until : Until) (n m : NightPlan) : Type 0 where
  pub before : List (Option Until)
  pub was : n.untils.items ≡ before ++ None ∷ []
  pub is : m.untils.items ≡ before ++ Some until ∷ []
  pub plan : m.plan ≡ n.plan
  pub names : m.groups ≡ n.groups
  pub keys : m.keys ≡ n.keys
  pub all : m.all ≡ n.all
  pub next : m.next ≡ n.next

abbrev pub GrowsByLast : Until → NightPlan → Option NightPlan → Type 0
GrowsByLast until n None = LacksUntil n.untils.items → ⊥
GrowsByLast until n (Some m) = HasNewUntil until n m

-- A group was added, unless its name is refused.
abbrev pub GrowsByGroup : Group → (name : List ℕ) → Growth → Option Growth → Type 0
GrowsByGroup group name g None =
    IsGroupName name → ((k : ℕ) → slice_get g.plan.groups.items k ≡ Some name → ⊥) → ⊥
GrowsByGroup group name g (Some h) =
    IsGroupName name × ((k : ℕ) → slice_get g.plan.groups.items k ≡ Some name → ⊥)
    × HasNewGroup group name g.plan h.plan × (h.pending ≡ None) × (h.first ≡ g.first)

-- A pool was added.
pub record GrowsByPool (size : ℕ) (g h : Growth) : Type 0 where
  pub plan : HasNewPool size g.plan h.plan
  pub pending : h.pending ≡ None
  pub first : h.first ≡ g.first

-- The last new group got a deadline, unless it had one or there is none.
abbrev pub GrowsByUntil : Until → Growth → Option Growth → Type 0
GrowsByUntil until g None =
    g.first < length g.plan.untils.items → LacksUntil g.plan.untils.items → ⊥
GrowsByUntil until g (Some h) =
    (g.first < length g.plan.untils.items) × HasNewUntil until g.plan h.plan
    × (h.pending ≡ None) × (h.first ≡ g.first)

-- A command of this group has this key.
abbrev pub IsKeyOf : NightPlan → (group : ℕ) → (key : List ℕ) → Type 0
IsKeyOf n group key =
    (c : ℕ) × HasKey (groups_of n.plan.commands.items) n.keys.items group key c

-- A command is pending, which needs and takes nothing yet.
pub record HasNewCommand (outline : Outline) (key : List ℕ) (g h : Growth) : Type 0 where
  pub own : outline.group < length g.plan.plan.groups.items
  pub free : IsKeyOf g.plan outline.group key → ⊥
  pub new : Pending
  pub is : h.pending ≡ Some new
  pub outlined : IsOutlined outline new.command
  pub called : new.key ≡ key
  pub plan : h.plan ≡ g.plan
  pub first : h.first ≡ g.first

-- A command was added, unless its group doesn't exist or has its key.
abbrev pub GrowsByCommand : Outline → (key : List ℕ) → Growth → Option Growth → Type 0
GrowsByCommand outline key g None =
    outline.group < length g.plan.plan.groups.items → (IsKeyOf g.plan outline.group key → ⊥) → ⊥
GrowsByCommand outline key g (Some h) = HasNewCommand outline key g h

-- The plan of a growth can grow by a command.
abbrev pub CanAdd : NightPlan → Listed → Type 0
CanAdd n l =
    CanGrowBy (length n.plan.groups.items) (length n.plan.commands.items) n.plan.pools.items l

-- The pending command has one more need or take.
pub record HasNewDetail (line : PlanLine) (g h : Growth) : Type 0 where
  pub old : Pending
  pub new : Pending
  pub was : g.pending ≡ Some old
  pub is : h.pending ≡ Some new
  pub extends : Extends line old.command new.command
  pub key : new.key ≡ old.key
  pub can : CanAdd g.plan (listed new.command)
  pub plan : h.plan ≡ g.plan
  pub first : h.first ≡ g.first

-- It has, unless no command is pending, or the plan can't grow by it then.
abbrev pub GrowsByDetail : PlanLine → Growth → Option Growth → Type 0
GrowsByDetail line g None =
    (p : Pending) → g.pending ≡ Some p
    → CanAdd g.plan (with_detail (listed p.command) (report.Plan line)) → ⊥
GrowsByDetail line g (Some h) = HasNewDetail line g h
