-- A command, as its lines make it.
use Rattle.std.specs.Prelude.{◌≡◌, ◌++◌, ◌∷◌, []}
use Rattle.night_plan.specs.declared.commands.Command.{Command}
use Rattle.night_plan.specs.declared.commands.Need.{Need}
use Rattle.night_plan.specs.declared.commands.Take.{Take}
use Rattle.plan_lines.specs.declared.lines.Outline.{Outline}
use Rattle.plan_lines.specs.declared.lines.PlanLine.{PlanLine}
use Rattle.plan_lines.specs.declared.lines.PlanLine.TheVariants as line

-- A command is as its first line says, and needs and takes nothing yet.
pub record IsOutlined (outline : Outline) (command : Command) : Type 0 where
  pub group : command.group ≡ outline.group
  pub priority : command.priority ≡ outline.priority
  pub retries : command.retries ≡ outline.retries
  pub wait : command.wait ≡ outline.wait
  pub factor : command.factor ≡ outline.factor
  pub cap : command.cap ≡ outline.cap
  pub needs : command.needs.items ≡ []
  pub takes : command.takes.items ≡ []

-- A command has one more need, and is otherwise the same.
pub record HasNewNeed (old : Command) (need : Need) (new : Command) : Type 0 where
  pub needs : new.needs.items ≡ old.needs.items ++ need ∷ []
  pub same : new ≡ record old { needs = new.needs }

-- A command has one more take, and is otherwise the same.
pub record HasNewTake (old : Command) (take : Take) (new : Command) : Type 0 where
  pub takes : new.takes.items ≡ old.takes.items ++ take ∷ []
  pub same : new ≡ record old { takes = new.takes }

-- A command has the need or the take that a line says. Any other line changes nothing.
abbrev pub Extends : PlanLine → Command → Command → Type 0
Extends (line.Need need) old new = HasNewNeed old need new
Extends (line.Take take) old new = HasNewTake old take new
Extends _ old new = new ≡ old
