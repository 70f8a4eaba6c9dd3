-- What a line makes of a round.
use Rattle.std.specs.Prelude.{◌≡◌, ℕ, true, false, Option, Some, None}
use Rattle.plan_lines.specs.declared.lines.PlanLine.{PlanLine}
use Rattle.plan_lines.specs.declared.lines.PlanLine.TheVariants as line
use Rattle.plan_lines.specs.declared.states.PlanState.{PlanState}
use Rattle.plan_lines.specs.declared.hearing.Growth.{Growth}
use Rattle.plan_lines.specs.declared.hearing.Round.{Round}
use Rattle.plan_lines.specs.declared.hearing.Heard.{Heard}
use Rattle.plan_lines.specs.declared.hearing.Heard.TheVariants as heard
use Rattle.plan_lines.specs.declared.hearing.Grown.{Grown}
use Rattle.plan_lines.specs.declared.hearing.Grown.TheVariants as grown
use Rattle.plan_lines.specs.Commands.{Extends, IsOutlined}
use Rattle.plan_lines.specs.Facts.{Notes}
use Rattle.plan_lines.specs.States.{HasFact, HasNewCommand, HasNewGroup, HasQuestion, HasTime}
use Rattle.plan_lines.specs.States.{MayGrow}

-- The command by which the plan grows has what a line of this number says. There has to be one.
abbrev pub GrowsOn : PlanLine → ℕ → Round → Heard → Type 0
GrowsOn given number r (heard.Bad n) = (r.growth ≡ None) × (n ≡ number)
GrowsOn given number r (heard.Round t) =
    (g h : Growth) × (r.growth ≡ Some g) × (t.growth ≡ Some h) × (t.state ≡ r.state)
    × Extends given g.command h.command × (h.line ≡ g.line)

-- The plan has grown by the command, if there is one that it may grow by.
abbrev pub Grows : Option Growth → PlanState → Grown → Type 0
Grows None s (grown.State t) = t ≡ s
Grows None s (grown.Bad n) = ⊥
Grows (Some g) s (grown.State t) = MayGrow true s.plan g.command × HasNewCommand g.command s t
Grows (Some g) s (grown.Bad n) = MayGrow false s.plan g.command × (n ≡ g.line)

-- A fact was noted. There has to be something that it is about.
abbrev pub HearsFact : PlanLine → ℕ → PlanState → Heard → Type 0
HearsFact given number s (heard.Bad n) = Notes false given s.facts s.facts × (n ≡ number)
HearsFact given number s (heard.Round t) = HasFact given s t.state × (t.growth ≡ None)

-- A line of this number was heard while the plan was growing by no command.
abbrev pub HearsAlone : PlanLine → ℕ → PlanState → Heard → Type 0
HearsAlone (line.Command outline) number s (heard.Round t) =
    (t.state ≡ s) × (g : Growth) × (t.growth ≡ Some g) × IsOutlined outline g.command
    × (g.line ≡ number)
HearsAlone (line.Group group) number s (heard.Round t) =
    HasNewGroup group s t.state × (t.growth ≡ None)
HearsAlone (line.Now moment) number s (heard.Round t) =
    HasTime moment s t.state × (t.growth ≡ None)
HearsAlone line.Standings number s (heard.Round t) =
    HasQuestion true s t.state × (t.growth ≡ None)
HearsAlone given number s answer = HearsFact given number s answer

-- A line was heard once the plan has grown.
abbrev pub HearsAfter : PlanLine → ℕ → Grown → Heard → Type 0
HearsAfter given number (grown.State s) answer = HearsAlone given number s answer
HearsAfter given number (grown.Bad n) answer = answer ≡ heard.Bad n

-- A line of this number was heard in a round.
abbrev pub Hears : PlanLine → ℕ → Round → Heard → Type 0
Hears (line.Need need) number r answer = GrowsOn (line.Need need) number r answer
Hears (line.Take take) number r answer = GrowsOn (line.Take take) number r answer
Hears given number r answer =
    (g : Grown) × Grows r.growth r.state g × HearsAfter given number g answer
