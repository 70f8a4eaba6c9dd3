-- What the lines of a plan come to.
use Rattle.std.specs.Prelude.{◌≡◌, ◌≤◌, ◌++◌, ◌∷◌, ℕ, Bool, true, false, List, [], Option, Some}
use Rattle.std.specs.Prelude.{None, Result, Ok, Err, length, map, slice_get}
use Rattle.std.specs.List.{filter_map, list_any}
use Rattle.night_plan.specs.declared.commands.Command.{Command}
use Rattle.night_plan.specs.declared.commands.Group.{Group}
use Rattle.night_plan.specs.Ranks.{Explains, TakesWithin}
use Rattle.plan_lines.specs.declared.lines.PlanLine.{PlanLine}
use Rattle.plan_lines.specs.declared.lines.PlanLine.TheVariants as line
use Rattle.run_model.specs.declared.bounds.TheConstants.{GREATEST_MOMENT}
use Rattle.drive_lines.specs.declared.reports.Report.{Report}
use Rattle.drive_lines.specs.declared.reports.Report.TheVariants as report
use Rattle.drive_parts.specs.declared.commands.CommandList.{CommandList}
use Rattle.drive_parts.specs.declared.groups.GroupList.{GroupList}
use Rattle.drive_parts.specs.declared.plans.NightPlan.{NightPlan}
use Rattle.drive_parts.specs.declared.plans.PlanDraft.{PlanDraft}
use Rattle.drive_parts.specs.declared.plans.PlanRefusal.{PlanRefusal}
use Rattle.drive_parts.specs.declared.plans.PlanRefusal.TheVariants as refusal
use Rattle.drive_nights.specs.declared.untils.Until.{Until}
use Rattle.drive_parts.specs.Additions.{commands_in, first_of, group_of, is_open, key_of, listed}
use Rattle.drive_parts.specs.Additions.{groups_in, name_of, pool_of, untils_in}
use Rattle.drive_parts.specs.Commands.{AreCommands, ExtendsLast}
use Rattle.drive_parts.specs.Groups.{AreGroups, HasUntil, LacksUntil}
use Rattle.drive_parts.specs.Names.{IsRefusedName, IsTwice}

-- ---- the lines

-- The deadline of all groups.
abbrev pub all_of : Report → Option Until
all_of (report.All moment words) = Some (record { moment = moment; words = words })
all_of _ = None

-- Another night begins.
abbrev pub is_next : Report → Bool
is_next report.Next = true
is_next _ = false

-- A line can come next in a plan, after these. A need or a take directly follows its command, or
-- another need or take of it. A group has one deadline at most, and so have all together. The clock
-- of a store can come to each deadline.
abbrev pub MayFollow : List Report → Report → Type 0
MayFollow reports (report.Plan (line.Pool size)) = Unit {0}
MayFollow reports (report.Plan (line.Need need)) = is_open reports ≡ true
MayFollow reports (report.Plan (line.Take take)) = is_open reports ≡ true
MayFollow reports (report.Group group name) = Unit {0}
MayFollow reports (report.Command outline key) = Unit {0}
MayFollow reports (report.Until moment words) =
    (moment ≤ GREATEST_MOMENT) × LacksUntil (untils_in reports)
MayFollow reports (report.All moment words) =
    (moment ≤ GREATEST_MOMENT) × (first_of all_of reports ≡ None)
MayFollow reports report.Next = Unit {0}
MayFollow reports _ = ⊥

-- ---- what was read of them

-- A draft is what these lines come to.
pub record IsPlanned (reports : List Report) (d : PlanDraft) : Type 0 where
  pub groups : AreGroups reports d.groups
  pub commands : AreCommands reports d.commands
  pub pools : d.pools.items ≡ filter_map pool_of reports
  pub all : d.all ≡ first_of all_of reports
  pub next : d.next ≡ list_any is_next reports

-- One more line was added, or it can't come next.
abbrev pub Adds : (reports : List Report) → Report → Option PlanDraft → Type 0
Adds reports r None = MayFollow reports r → ⊥
Adds reports r (Some e) = MayFollow reports r × IsPlanned (reports ++ r ∷ []) e

-- ---- the plan

-- This is exactly the plan of these lines.
pub record IsPlanOf (reports : List Report) (n : NightPlan) : Type 0 where
  pub groups : n.plan.groups.items ≡ filter_map group_of reports
  pub names : n.groups.items ≡ filter_map name_of reports
  pub untils : n.untils.items ≡ untils_in reports
  pub pools : n.plan.pools.items ≡ filter_map pool_of reports
  pub commands : map listed n.plan.commands.items ≡ commands_in reports
  pub keys : n.keys.items ≡ filter_map key_of reports
  pub first : n.plan.first ≡ length n.plan.commands.items
  pub fits : (c : ℕ) (command : Command) → slice_get n.plan.commands.items c ≡ Some command
      → TakesWithin n.plan.pools.items command
  pub all : n.all ≡ first_of all_of reports
  pub next : n.next ≡ list_any is_next reports

-- These lines make no plan, and this is why.
abbrev pub Refuses : List Report → PlanRefusal → Type 0
Refuses reports (refusal.Fault why) =
    (commands : List Command) × (map listed commands ≡ commands_in reports)
    × Explains (filter_map group_of reports) (filter_map pool_of reports) commands why
Refuses reports (refusal.Name g) = IsRefusedName (filter_map name_of reports) g
Refuses reports (refusal.Twice c) =
    IsTwice (groups_in reports) (filter_map key_of reports) c

-- The plan of these lines, or why there is none.
abbrev pub IsFinished : List Report → Result NightPlan PlanRefusal → Type 0
IsFinished reports (Ok n) = IsPlanOf reports n
IsFinished reports (Err why) = Refuses reports why

-- ---- for private functions: no public contract cites what follows

-- The commands are the same, but needs and takes of the last one can't come next any more.
pub record IsClosed (l m : CommandList) : Type 0 where
  pub commands : m.commands ≡ l.commands
  pub keys : m.keys ≡ l.keys
  pub growing : m.growing ≡ false

-- There is one more group.
pub record HasGroup (group : Group) (name : List ℕ) (l m : GroupList) : Type 0 where
  pub groups : m.groups.items ≡ l.groups.items ++ group ∷ []
  pub names : m.names.items ≡ l.names.items ++ name ∷ []
  pub untils : m.untils.items ≡ l.untils.items ++ None ∷ []

-- The last command has one more need or take, if that can come next.
abbrev pub HasDetail : PlanLine → PlanDraft → Option PlanDraft → Type 0
HasDetail line d None = ExtendsLast line d.commands None
HasDetail line d (Some e) =
    ExtendsLast line d.commands (Some e.commands) × (e.groups ≡ d.groups) × (e.pools ≡ d.pools)
    × (e.all ≡ d.all) × (e.next ≡ d.next)

-- The last group has this deadline, unless it had one.
abbrev pub HasLastUntil : Until → PlanDraft → Option PlanDraft → Type 0
HasLastUntil until d None = HasUntil until d.groups None
HasLastUntil until d (Some e) =
    HasUntil until d.groups (Some e.groups) × IsClosed d.commands e.commands
    × (e.pools ≡ d.pools) × (e.all ≡ d.all) × (e.next ≡ d.next)

-- All groups have this deadline, unless they had one.
abbrev pub HasAll : Until → PlanDraft → Option PlanDraft → Type 0
HasAll until d None = d.all ≡ None → ⊥
HasAll until d (Some e) =
    (d.all ≡ None) × (e.all ≡ Some until) × (e.groups ≡ d.groups)
    × IsClosed d.commands e.commands × (e.pools ≡ d.pools) × (e.next ≡ d.next)
