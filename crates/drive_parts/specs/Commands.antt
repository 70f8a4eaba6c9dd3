-- The commands of a plan while its lines are read.
use Rattle.std.specs.Prelude.{◌≡◌, ◌++◌, ◌∷◌, ℕ, true, List, [], Option, Some, None, map}
use Rattle.std.specs.List.{filter_map}
use Rattle.night_plan.specs.declared.commands.Command.{Command}
use Rattle.plan_lines.specs.declared.lines.Outline.{Outline}
use Rattle.plan_lines.specs.declared.lines.PlanLine.{PlanLine}
use Rattle.plan_lines.specs.Commands.{Extends, IsOutlined}
use Rattle.drive_lines.specs.declared.reports.Report.{Report}
use Rattle.drive_parts.specs.declared.commands.CommandList.{CommandList}
use Rattle.drive_parts.specs.Additions.{commands_in, is_open, key_of, listed}

-- These are the commands of some lines.
pub record AreCommands (reports : List Report) (l : CommandList) : Type 0 where
  pub commands : map listed l.commands.items ≡ commands_in reports
  pub keys : l.keys.items ≡ filter_map key_of reports
  pub growing : l.growing ≡ is_open reports

-- ---- for private functions: no public contract cites what follows

-- There is one more command, which has this key, and needs and takes nothing yet.
pub record HasCommand (outline : Outline) (key : List ℕ) (l m : CommandList) : Type 0 where
  pub command : Command
  pub outlined : IsOutlined outline command
  pub commands : m.commands.items ≡ l.commands.items ++ command ∷ []
  pub keys : m.keys.items ≡ l.keys.items ++ key ∷ []
  pub growing : m.growing ≡ true

-- The last command has one more need or take.
pub record HasDetail (line : PlanLine) (l m : CommandList) : Type 0 where
  pub before : List Command
  pub old : Command
  pub new : Command
  pub had : l.commands.items ≡ before ++ old ∷ []
  pub extends : Extends line old new
  pub has : m.commands.items ≡ before ++ new ∷ []
  pub keys : m.keys ≡ l.keys
  pub growing : l.growing ≡ true
  pub goes_on : m.growing ≡ true

-- It has, unless no need or take can come next.
abbrev pub ExtendsLast : PlanLine → CommandList → Option CommandList → Type 0
ExtendsLast line l None = l.growing ≡ true → l.commands.items ≡ []
ExtendsLast line l (Some m) = HasDetail line l m
