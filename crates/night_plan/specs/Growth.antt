-- A night whose plan grows.
use Rattle.std.specs.Prelude.{◌≡◌, ◌<◌, ◌++◌, ℕ, false, List, [], ◌∷◌, length}
use Rattle.night_plan.specs.declared.commands.Command.{Command}
use Rattle.night_plan.specs.declared.commands.Group.{Group as GroupLine}
use Rattle.night_plan.specs.declared.facts.Phase.TheVariants.{Fresh}
use Rattle.night_plan.specs.declared.facts.Known.{Known}
use Rattle.night_plan.specs.declared.standings.Standing.{Standing}
use Rattle.night_plan.specs.Plans.{IsSound}
use Rattle.night_plan.specs.Nights.{Night}
use Rattle.night_plan.specs.Standings.{Stands}

abbrev pub fresh_row : Known
fresh_row = record { phase = Fresh; failures = 0; canceled = false }

-- The night with one more command, of which nothing is known yet.
abbrev pub with_one : Night → Command → Night
with_one n command =
    record n { commands = n.commands ++ command ∷ []; known = n.known ++ fresh_row ∷ [] }

-- The night with one more group, which has no command yet and is not done.
abbrev pub with_group : Night → GroupLine → Night
with_group n group =
    record n { groups = n.groups ++ group ∷ []; done = n.done ++ false ∷ [] }

-- A command that is added changes no standing of those that were there.
abbrev pub GrowsAlone : Type 0
GrowsAlone =
    (n : Night) (pools : ℕ) (order places : List ℕ) (command : Command) (now c : ℕ) (s : Standing)
    → IsSound n.first n.groups pools n.commands order places → length n.known ≡ length n.commands
    → c < length n.commands → Stands n now c s → Stands (with_one n command) now c s

-- Nor does a group.
abbrev pub GroupsGrowAlone : Type 0
GroupsGrowAlone =
    (n : Night) (pools : ℕ) (order places : List ℕ) (group : GroupLine) (now c : ℕ) (s : Standing)
    → IsSound n.first n.groups pools n.commands order places → length n.done ≡ length n.groups
    → c < length n.commands → Stands n now c s → Stands (with_group n group) now c s
