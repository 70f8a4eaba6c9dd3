-- Ranks of the commands, as they are given one after another, and circles.
use Rattle.std.specs.Prelude.{◌≡◌, ◌<◌, ◌≤◌, ◌+◌, ◌-◌, ◌==◌, ℕ, Bool, true, List, Some, All}
use Rattle.std.specs.Prelude.{count_by, length, slice_get, slice_index}
use Rattle.std.specs.List.{AllWithin}
use Rattle.night_plan.specs.declared.commands.Group.{Group as GroupLine}
use Rattle.night_plan.specs.declared.commands.Command.{Command}
use Rattle.night_plan.specs.declared.commands.Need.{Need}
use Rattle.night_plan.specs.declared.commands.Plan.{Plan}
use Rattle.night_plan.specs.declared.commands.Subject.{Subject}
use Rattle.night_plan.specs.declared.commands.Subject.TheVariants as subject
use Rattle.night_plan.specs.declared.ranks.Ranking.{Ranking}
use Rattle.night_plan.specs.declared.ranks.Ranking.TheVariants as ranking
use Rattle.night_plan.specs.declared.plans.PlanFault.{PlanFault}
use Rattle.night_plan.specs.declared.plans.PlanFault.TheVariants as fault
use Rattle.night_plan.specs.Plans.{is_of, is_within, ComesAfter}
use Rattle.night_plan.specs.declared.links.Links.{Links}
use Rattle.night_plan.specs.Links.{AreLinks, IsRankedFrom}
use Rattle.night_plan.specs.Choices.{takes_of}

-- A subject of a first plan names command d.
abbrev pub touches : List Command → Subject → ℕ → Bool
touches commands (subject.Command e) d = e == d
touches commands (subject.Group g) d = is_of commands g d

-- Each command that a need names has a rank.
abbrev pub HasRanks : List Command → List ℕ → Need → Type 0
HasRanks commands ranks need =
    (d : ℕ) → touches commands need.of d ≡ true → 0 < slice_index ranks d

-- In a first plan, command c comes after command d.
abbrev pub FirstAfter : List Command → ℕ → ℕ → Type 0
FirstAfter commands c d = ComesAfter (length commands) commands c d

-- Those that have a rank, at most this one, come after lower ones alone, and stand in the order at
-- the place before their rank. 0 is no rank.
pub record AreRanks (commands : List Command) (ranks order : List ℕ) (most : ℕ) : Type 0 where
  pub sized : length ranks ≡ length commands
  pub within : (c : ℕ) → slice_index ranks c ≤ most
  pub some : (c d : ℕ) → 0 < slice_index ranks c → FirstAfter commands c d
      → 0 < slice_index ranks d
  pub lower : (c d : ℕ) → 0 < slice_index ranks c → FirstAfter commands c d
      → slice_index ranks d < slice_index ranks c
  pub listed : length order ≡ most
  pub placed : (c : ℕ) → 0 < slice_index ranks c
      → slice_get order (slice_index ranks c - 1) ≡ Some c
  pub at : (p c : ℕ) → slice_get order p ≡ Some c → slice_index ranks c ≡ p + 1

-- How many have no rank, or no place.
abbrev pub unranked : List ℕ → ℕ
unranked ranks = count_by (λ rank. rank == 0) ranks

-- Each need of command c names ranked ones alone.
abbrev pub NeedsRanked : List Command → List ℕ → ℕ → Type 0
NeedsRanked commands ranks c =
    (command : Command) → slice_get commands c ≡ Some command
    → All (HasRanks commands ranks) command.needs.items

-- Command c comes after command d, which has no rank.
abbrev pub FirstUnranked : List Command → List ℕ → ℕ → ℕ → Type 0
FirstUnranked commands ranks c d = FirstAfter commands c d × (slice_index ranks d ≡ 0)

-- The commands of groups are linked, and from the cursor of each group on, they have ranks.
pub record IsGrouped (commands : List Command) (all : Links) (ranks cursors : List ℕ)
    : Type 0 where
  pub sized : length ranks ≡ length commands
  pub links : AreLinks commands (length cursors) (length commands) all.before.items
      all.last.items
  pub from : (g : ℕ) → g < length cursors → IsRankedFrom commands ranks g (slice_index cursors g)

-- So many needs of each command, the first ones, name ranked ones alone.
pub record AreMet (commands : List Command) (ranks met : List ℕ) : Type 0 where
  pub sized : length met ≡ length commands
  pub bounded : (c : ℕ) (command : Command) → slice_get commands c ≡ Some command
      → slice_index met c ≤ length command.needs.items
  pub each : (c : ℕ) (command : Command) → slice_get commands c ≡ Some command
      → AllWithin (HasRanks commands ranks) command.needs.items 0 (slice_index met c)

-- Each comes after the next one.
abbrev pub IsWalk : List Command → List ℕ → Type 0
IsWalk commands path =
    (k : ℕ) → k + 1 < length path
    → FirstAfter commands (slice_index path k) (slice_index path (k + 1))

-- There are some, each comes after the next one, and the last comes after the first.
pub record IsCircle (commands : List Command) (path : List ℕ) : Type 0 where
  pub some : 0 < length path
  pub walk : IsWalk commands path
  pub back : FirstAfter commands (slice_index path (length path - 1)) (slice_index path 0)

-- A line names groups, commands and pools of the plan.
pub record IsKnown (groups commands pools : ℕ) (command : Command) : Type 0 where
  pub own : command.group < groups
  pub needs : All (λ need. is_within groups commands need.of ≡ true) command.needs.items
  pub takes : All (λ row. row.pool < pools) command.takes.items

-- What is known of ranks: by groups, and by the needs of each command.
pub record IsSearching (commands : List Command) (all : Links) (ranks cursors met : List ℕ)
    : Type 0 where
  pub groups : IsGrouped commands all ranks cursors
  pub needs : AreMet commands ranks met

-- A walk through commands without ranks, each of which comes after the next one. The place of each
-- is marked, from 1 on, and no other command without a rank has a mark.
pub record IsPath (commands : List Command) (ranks places path : List ℕ) : Type 0 where
  pub sized : length places ≡ length commands
  pub inside : (k : ℕ) → k < length path → slice_index path k < length commands
  pub none : (k : ℕ) → k < length path → slice_index ranks (slice_index path k) ≡ 0
  pub placed : (k : ℕ) → k < length path → slice_index places (slice_index path k) ≡ k + 1
  pub on : (d : ℕ) → 0 < slice_index places d → slice_index ranks d ≡ 0
      → (slice_index places d ≤ length path) × (slice_index path (slice_index places d - 1) ≡ d)
  pub walk : IsWalk commands path

-- All commands have ranks, by which they stand in the order; or there is a circle.
abbrev pub IsRanking : List Command → Ranking → Type 0
IsRanking commands (ranking.Ranks all) =
    AreRanks commands all.ranks.items all.order.items (length all.order.items)
    × ((c : ℕ) → c < length commands → 0 < slice_index all.ranks.items c)
IsRanking commands (ranking.Circle path) = IsCircle commands path.items

-- A command takes no more of each pool than its size.
abbrev pub TakesWithin : List ℕ → Command → Type 0
TakesWithin pools command =
    (p : ℕ) → takes_of command.takes.items p ≤ slice_index pools p

-- A command takes more of a pool than its size.
pub record IsTooMuch (pools : List ℕ) (command : Command) : Type 0 where
  pub pool : ℕ
  pub more : slice_index pools pool < takes_of command.takes.items pool

-- What a refusal says: nothing; a command whose line names what there isn't, or takes more of a
-- pool than its size; or a circle.
abbrev pub Explains : List GroupLine → List ℕ → List Command → PlanFault → Type 0
Explains groups pools commands fault.Memory = Unit {0}
Explains groups pools commands (fault.Unknown c) =
    (command : Command) × (slice_get commands c ≡ Some command)
    × (IsKnown (length groups) (length commands) (length pools) command → ⊥)
Explains groups pools commands (fault.TooMuch c) =
    (command : Command) × (slice_get commands c ≡ Some command) × IsTooMuch pools command
Explains groups pools commands (fault.Circle path) = IsCircle commands path.items

-- Why a plan can't grow by a command, whose number is the next one: its line names what there
-- isn't, or it takes more of a pool than its size.
abbrev pub ForbidsGrowth : Plan → Command → PlanFault → Type 0
ForbidsGrowth plan command fault.Memory = ⊥
ForbidsGrowth plan command (fault.Unknown c) =
    (c ≡ length plan.commands.items) × (IsKnown (length plan.groups.items)
    (length plan.commands.items) (length plan.pools.items) command → ⊥)
ForbidsGrowth plan command (fault.TooMuch c) =
    (c ≡ length plan.commands.items) × IsTooMuch plan.pools.items command
ForbidsGrowth plan command (fault.Circle path) = ⊥
