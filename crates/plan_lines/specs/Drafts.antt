-- The lines of a plan while they are read.
use Rattle.std.specs.Prelude.{◌≡◌, ◌++◌, ◌∷◌, List, [], Option, Some, None, Result, Ok, Err}
use Rattle.std.specs.Prelude.{length}
use Rattle.std.specs.Option.{option_to_list}
use Rattle.night_plan.specs.declared.commands.Command.{Command}
use Rattle.night_plan.specs.declared.commands.Plan.{Plan}
use Rattle.night_plan.specs.declared.plans.PlanFault.{PlanFault}
use Rattle.night_plan.specs.Ranks.{Explains}
use Rattle.plan_lines.specs.declared.drafts.Draft.{Draft}
use Rattle.plan_lines.specs.declared.lines.PlanLine.{PlanLine}
use Rattle.plan_lines.specs.declared.lines.PlanLine.TheVariants as line
use Rattle.plan_lines.specs.Commands.{Extends, IsOutlined}

-- The commands of a draft: those before the last, and the last, if there is one.
abbrev pub commands_in : Draft → List Command
commands_in d = d.commands.items ++ option_to_list d.last

-- No line was added yet.
pub record IsNew (d : Draft) : Type 0 where
  pub groups : d.groups.items ≡ []
  pub pools : d.pools.items ≡ []
  pub commands : d.commands.items ≡ []
  pub last : d.last ≡ None

-- The last command has the need or the take that a line says, and nothing else has changed.
pub record HasNewLast (given : PlanLine) (d e : Draft) : Type 0 where
  pub old : Command
  pub new : Command
  pub was : d.last ≡ Some old
  pub is : e.last ≡ Some new
  pub has : Extends given old new
  pub groups : e.groups ≡ d.groups
  pub pools : e.pools ≡ d.pools
  pub commands : e.commands ≡ d.commands

-- A line was added to a draft. It has to be one of a plan, and a need or a take has to follow its
-- command.
abbrev pub Adds : PlanLine → Draft → Option Draft → Type 0
Adds (line.Pool size) d (Some e) =
    (e.pools.items ≡ d.pools.items ++ size ∷ []) × (e.groups ≡ d.groups)
    × (e.commands.items ≡ commands_in d) × (e.last ≡ None)
Adds (line.Group group) d (Some e) =
    (e.groups.items ≡ d.groups.items ++ group ∷ []) × (e.pools ≡ d.pools)
    × (e.commands.items ≡ commands_in d) × (e.last ≡ None)
Adds (line.Command outline) d (Some e) =
    (command : Command) × IsOutlined outline command × (e.last ≡ Some command)
    × (e.commands.items ≡ commands_in d) × (e.groups ≡ d.groups) × (e.pools ≡ d.pools)
Adds (line.Need need) d (Some e) = HasNewLast (line.Need need) d e
Adds (line.Take take) d (Some e) = HasNewLast (line.Take take) d e
Adds (line.Need need) d None = d.last ≡ None
Adds (line.Take take) d None = d.last ≡ None
Adds (line.Pool size) d None = ⊥
Adds (line.Group group) d None = ⊥
Adds (line.Command outline) d None = ⊥
Adds _ d (Some e) = ⊥
Adds _ d None = Unit {0}

-- The plan of a draft, or why there is none.
abbrev pub Finishes : Draft → Result Plan PlanFault → Type 0
Finishes d (Ok plan) = (plan.groups.items ≡ d.groups.items) × (plan.pools.items ≡ d.pools.items)
    × (plan.commands.items ≡ commands_in d) × (plan.first ≡ length (commands_in d))
Finishes d (Err why) = Explains d.groups.items d.pools.items (commands_in d) why

-- ---- for private functions: no public contract cites what follows

-- The last command has the need or the take that a line says, if there is a last command.
abbrev pub ExtendsLast : PlanLine → Draft → Option Draft → Type 0
ExtendsLast given d None = d.last ≡ None
ExtendsLast given d (Some e) = HasNewLast given d e
