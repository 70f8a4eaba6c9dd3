-- The state of a plan, and how it changes.
use Rattle.std.specs.Prelude.{◌≡◌, ◌++◌, ◌∷◌, ℕ, Bool, true, false, [], Some}
use Rattle.std.specs.Prelude.{length, max, min, slice_get}
use Rattle.night_plan.specs.declared.commands.Command.{Command}
use Rattle.night_plan.specs.declared.commands.Group.{Group}
use Rattle.night_plan.specs.declared.commands.Plan.{Plan}
use Rattle.night_plan.specs.declared.facts.Known.{Known}
use Rattle.night_plan.specs.Growth.{fresh_row}
use Rattle.night_plan.specs.declared.plans.PlanFault.{PlanFault}
use Rattle.night_plan.specs.Ranks.{ForbidsGrowth, IsKnown, TakesWithin}
use Rattle.plan_lines.specs.declared.lines.PlanLine.{PlanLine}
use Rattle.plan_lines.specs.declared.states.PlanState.{PlanState}
use Rattle.plan_lines.specs.Facts.{Notes}

-- Nothing was heard yet of a plan.
pub record IsBegun (plan : Plan) (s : PlanState) : Type 0 where
  pub plan_is : s.plan ≡ plan
  pub known : (c : ℕ) (k : Known) → slice_get s.facts.known.items c ≡ Some k → k ≡ fresh_row
  pub done : (g : ℕ) (b : Bool) → slice_get s.facts.done.items g ≡ Some b → b ≡ false
  pub sizes : s.facts.sizes.items ≡ plan.pools.items
  pub time : s.time ≡ 0
  pub asked : s.asked ≡ false

-- The question how each command stands is there or not, and nothing else has changed.
pub record HasQuestion (asked : Bool) (s t : PlanState) : Type 0 where
  pub plan : t.plan ≡ s.plan
  pub facts : t.facts ≡ s.facts
  pub time : t.time ≡ s.time
  pub question : t.asked ≡ asked

-- The time has gone on to this moment, unless it was later already; nothing else has changed.
pub record HasTime (moment : ℕ) (s t : PlanState) : Type 0 where
  pub plan : t.plan ≡ s.plan
  pub facts : t.facts ≡ s.facts
  pub time : t.time ≡ max s.time (min moment 999999999999)
  pub question : t.asked ≡ s.asked

-- A line was noted among the facts, and nothing else has changed.
pub record HasFact (given : PlanLine) (s t : PlanState) : Type 0 where
  pub plan : t.plan ≡ s.plan
  pub facts : Notes true given s.facts t.facts
  pub time : t.time ≡ s.time
  pub question : t.asked ≡ s.asked

-- The plan has one more group, which isn't done; nothing else has changed.
pub record HasNewGroup (group : Group) (s t : PlanState) : Type 0 where
  pub first : t.plan.first ≡ s.plan.first
  pub groups : t.plan.groups.items ≡ s.plan.groups.items ++ group ∷ []
  pub pools : t.plan.pools.items ≡ s.plan.pools.items
  pub commands : t.plan.commands.items ≡ s.plan.commands.items
  pub known : t.facts.known ≡ s.facts.known
  pub done : t.facts.done.items ≡ s.facts.done.items ++ false ∷ []
  pub sizes : t.facts.sizes ≡ s.facts.sizes
  pub time : t.time ≡ s.time
  pub question : t.asked ≡ s.asked

-- The plan has one more command, of which nothing is known yet; nothing else has changed.
pub record HasNewCommand (command : Command) (s t : PlanState) : Type 0 where
  pub first : t.plan.first ≡ s.plan.first
  pub groups : t.plan.groups.items ≡ s.plan.groups.items
  pub pools : t.plan.pools.items ≡ s.plan.pools.items
  pub commands : t.plan.commands.items ≡ s.plan.commands.items ++ command ∷ []
  pub known : t.facts.known.items ≡ s.facts.known.items ++ fresh_row ∷ []
  pub done : t.facts.done ≡ s.facts.done
  pub sizes : t.facts.sizes ≡ s.facts.sizes
  pub time : t.time ≡ s.time
  pub question : t.asked ≡ s.asked

-- The plan may grow by a command, or there is a reason why it can't.
abbrev pub MayGrow : Bool → Plan → Command → Type 0
MayGrow true plan command =
    IsKnown (length plan.groups.items) (length plan.commands.items) (length plan.pools.items)
    command × TakesWithin plan.pools.items command
MayGrow false plan command = (why : PlanFault) × ForbidsGrowth plan command why
