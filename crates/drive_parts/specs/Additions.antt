-- What some lines of the executor add to a plan.
use Rattle.std.specs.Prelude.{◌&&◌, ◌||◌, ◌++◌, ◌∷◌, ℕ, Bool, false, List, [], Option, Some}
use Rattle.std.specs.Prelude.{None, if◌then◌else◌, map}
use Rattle.std.specs.List.{filter_map, list_all}
use Rattle.std.specs.Option.{is_some, option_map_or, option_or}
use Rattle.night_plan.specs.declared.commands.Command.{Command}
use Rattle.night_plan.specs.declared.commands.Group.{Group}
use Rattle.night_plan.specs.declared.commands.Need.{Need}
use Rattle.night_plan.specs.declared.commands.Take.{Take}
use Rattle.plan_lines.specs.declared.lines.Outline.{Outline}
use Rattle.plan_lines.specs.declared.lines.PlanLine.TheVariants as line
use Rattle.drive_lines.specs.declared.reports.Report.{Report}
use Rattle.drive_lines.specs.declared.reports.Report.TheVariants as report
use Rattle.drive_nights.specs.declared.untils.Until.{Until}

-- ---- one line

-- The group of a line, and its name.
abbrev pub group_of : Report → Option Group
group_of (report.Group group name) = Some group
group_of _ = None

abbrev pub name_of : Report → Option (List ℕ)
name_of (report.Group group name) = Some name
name_of _ = None

-- The size of a line's pool.
abbrev pub pool_of : Report → Option ℕ
pool_of (report.Plan (line.Pool size)) = Some size
pool_of _ = None

-- The command of a line, and its key.
abbrev pub outline_of : Report → Option Outline
outline_of (report.Command outline key) = Some outline
outline_of _ = None

abbrev pub key_of : Report → Option (List ℕ)
key_of (report.Command outline key) = Some key
key_of _ = None

-- The need of a line, and its take.
abbrev pub need_of : Report → Option Need
need_of (report.Plan (line.Need need)) = Some need
need_of _ = None

abbrev pub take_of : Report → Option Take
take_of (report.Plan (line.Take take)) = Some take
take_of _ = None

-- The deadline of a line for the group before it.
abbrev pub until_of : Report → Option Until
until_of (report.Until moment words) = Some (record { moment = moment; words = words })
until_of _ = None

-- A line is a need or a take.
abbrev pub is_detail : Report → Bool
is_detail r = is_some (need_of r) || is_some (take_of r)

-- ---- some lines

-- The first value that lines have.
abbrev pub first_of : {A : Type 0} → (Report → Option A) → List Report → Option A
first_of f [] = None
first_of f (r ∷ rest) = option_or (f r) (first_of f rest)

-- The deadline of a group, among the lines after that of the group: the first one before the next
-- group.
abbrev pub until_after : List Report → Option Until
until_after [] = None
until_after (r ∷ rest) =
    if is_some (group_of r) then None else option_or (until_of r) (until_after rest)

-- The deadline of each group, if it has one.
abbrev pub untils_in : List Report → List (Option Until)
untils_in [] = []
untils_in (r ∷ rest) =
    if is_some (group_of r) then until_after rest ∷ untils_in rest else untils_in rest

-- A command as its lines describe it.
pub record Listed : Type 0 where
  pub outline : Outline
  pub needs : List Need
  pub takes : List Take

-- The needs and takes with which these lines begin.
abbrev pub details : List Report → List Report
details [] = []
details (r ∷ rest) = if is_detail r then r ∷ details rest else []

-- A command, and these of its needs and takes.
abbrev pub listed_with : (lines : List Report) → Outline → Listed
listed_with lines outline = record {
  outline = outline;
  needs = filter_map need_of lines;
  takes = filter_map take_of lines;
}

-- The commands of some lines, in order, with the needs and takes that directly follow each of them.
abbrev pub commands_in : List Report → List Listed
commands_in [] = []
commands_in (r ∷ rest) =
    option_map_or (λ outline. listed_with (details rest) outline ∷ commands_in rest)
    (outline_of r) (commands_in rest)

-- The group of each of them.
abbrev pub groups_in : List Report → List ℕ
groups_in reports = map (λ (command : Listed). command.outline.group) (commands_in reports)

-- There is a command, and nothing but needs and takes comes after it.
abbrev pub is_open : List Report → Bool
is_open [] = false
is_open (r ∷ rest) = is_some (outline_of r) && list_all is_detail rest || is_open rest

-- ---- a command of a plan

-- What lines would have to say of this command.
abbrev pub listed : Command → Listed
listed command = record {
  outline = record {
    group = command.group;
    priority = command.priority;
    retries = command.retries;
    wait = command.wait;
    factor = command.factor;
    cap = command.cap;
  };
  needs = command.needs.items;
  takes = command.takes.items;
}

-- ---- for private functions: no public contract cites what follows

-- A command with one more need or take.
abbrev pub with_detail : Listed → Report → Listed
with_detail last r = record {
  outline = last.outline;
  needs = last.needs ++ filter_map need_of (r ∷ []);
  takes = last.takes ++ filter_map take_of (r ∷ []);
}
