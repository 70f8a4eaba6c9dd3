-- The answers to a plan and to a round, line by line.
use Rattle.std.specs.Prelude.{◌≡◌, ◌++◌, ◌∷◌, ℕ, Bool, true, false, List, [], Option, Some, None}
use Rattle.std.specs.Prelude.{Contains, length, map, slice_get, ◌↔◌, ◌+◌}
use Rattle.std.specs.List.Sorted.{IsStrictlyIncreasing}
use Rattle.night_plan.specs.declared.choices.Choice.{Choice}
use Rattle.night_plan.specs.declared.plans.PlanFault.{PlanFault}
use Rattle.night_plan.specs.declared.plans.PlanFault.TheVariants as fault
use Rattle.night_plan.specs.declared.standings.Standing.{Standing}
use Rattle.night_plan.specs.Choices.{IsChoice}
use Rattle.night_plan.specs.Nights.{night}
use Rattle.night_plan.specs.Standings.{Stands}
use Rattle.night_plan.specs.Stops.{MustStop}
use Rattle.plan_lines.specs.declared.answers.AnswerLine.{AnswerLine}
use Rattle.plan_lines.specs.declared.answers.AnswerLine.TheVariants as answer
use Rattle.plan_lines.specs.declared.states.PlanState.{PlanState}

-- The lines of a refusal. Missing memory has none.
abbrev pub refusal_lines : PlanFault → List AnswerLine
refusal_lines fault.Memory = []
refusal_lines (fault.Unknown c) = answer.Unknown c ∷ answer.End ∷ []
refusal_lines (fault.TooMuch c) = answer.TooMuch c ∷ answer.End ∷ []
refusal_lines (fault.Circle members) =
    answer.Circle ∷ (map answer.Member members.items ++ answer.End ∷ [])

-- The line of a later moment, if there is one.
abbrev pub later_lines : Option ℕ → List AnswerLine
later_lines None = []
later_lines (Some moment) = answer.Later moment ∷ []

-- These lines say how the commands of a list stand, from command i on.
abbrev pub standing_lines : ℕ → List Standing → List AnswerLine
standing_lines i [] = []
standing_lines i (s ∷ all) = answer.Stands i s ∷ standing_lines (i + 1) all

-- Each command stands so.
pub record AreStandings (s : PlanState) (all : List Standing) : Type 0 where
  pub sized : length all ≡ length s.plan.commands.items
  pub each : (c : ℕ) (standing : Standing) → slice_get all c ≡ Some standing
      → Stands (night s.plan s.facts) s.time c standing

-- Lines that say how each command stands were appended.
abbrev pub Stated : PlanState → (old new : List AnswerLine) → Type 0
Stated s old new = (all : List Standing) × AreStandings s all × (new ≡ old ++ standing_lines 0 all)

-- The lines of the standings, if the round asks for them.
abbrev pub AskedLines : Bool → PlanState → List AnswerLine → Type 0
AskedLines false s lines = lines ≡ []
AskedLines true s lines =
    (all : List Standing) × AreStandings s all × (lines ≡ standing_lines 0 all)

-- Those lines were appended, if the round asks for them.
abbrev pub AsksAppended : PlanState → (old new : List AnswerLine) → Type 0
AsksAppended s old new = (lines : List AnswerLine) × AskedLines s.asked s lines
    × (new ≡ old ++ lines)

-- The answer to a round: what is chosen begins, in order; what has to stop, by number; the later
-- moment; and how each command stands, if that is asked.
pub record IsAnswer (s : PlanState) (lines : List AnswerLine) : Type 0 where
  pub choice : Choice
  pub stops : List ℕ
  pub asked : List AnswerLine
  pub chosen : IsChoice (night s.plan s.facts) s.time s.facts.sizes.items choice
  pub stopped : (c : ℕ) → Contains stops c ↔ MustStop (night s.plan s.facts) c
  pub in_order : IsStrictlyIncreasing stops
  pub stands : AskedLines s.asked s asked
  pub lines_are : lines ≡ map answer.Begin choice.commands.items
      ++ (map answer.Stop stops ++ (later_lines choice.later ++ (asked ++ answer.End ∷ [])))
