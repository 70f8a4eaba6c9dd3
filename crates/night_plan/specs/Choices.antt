-- Which commands are to begin now, and when to ask again.
use Rattle.std.specs.Prelude.{◌≡◌, ◌<◌, ◌≤◌, ◌+◌, ◌-◌, ◌==◌, ◌&&◌, ◌||◌, ◌⊎◌, ℕ, suc, zero, Bool}
use Rattle.std.specs.Prelude.{true, false, cond, List, Option, Some, None, All, Contains, filter}
use Rattle.std.specs.Prelude.{length, nat_lt, slice_get, slice_index, sum_by}
use Rattle.std.specs.Option.{option_map_or}
use Rattle.night_plan.specs.declared.choices.Choice.{Choice}
use Rattle.night_plan.specs.declared.commands.Take.{Take}
use Rattle.night_plan.specs.Nights.{Night, runs, IsReady, IsWaiting, IsFinal}

-- ---- pools

-- How much of pool p these rows take.
abbrev pub takes_of : List Take → ℕ → ℕ
takes_of takes p = sum_by (λ row. cond (row.pool == p) row.amount 0) takes

-- How much of pool p command c takes while it runs.
abbrev pub takes_at : Night → ℕ → ℕ → ℕ
takes_at n p c =
    option_map_or (λ command. takes_of command.takes.items p) (slice_get n.commands c) 0

-- The sum of what a function gives at each number below a bound.
abbrev pub sum_below : (ℕ → ℕ) → ℕ → ℕ
sum_below f zero = 0
sum_below f (suc k) = sum_below f k + f k

-- How much of pool p the busy commands take.
abbrev pub in_use : Night → ℕ → ℕ
in_use n p = sum_below (λ c. cond (runs n c) (takes_at n p c) 0) (length n.commands)

-- How much of pool p some commands take together.
abbrev pub taken : Night → ℕ → List ℕ → ℕ
taken n p chosen = sum_by (takes_at n p) chosen

-- ---- order

abbrev pub group_priority : Night → ℕ → ℕ
group_priority n c =
    option_map_or (λ command. option_map_or (λ group. group.priority)
    (slice_get n.groups command.group) 0) (slice_get n.commands c) 0

abbrev pub own_priority : Night → ℕ → ℕ
own_priority n c = option_map_or (λ command. command.priority) (slice_get n.commands c) 0

-- Command d comes before command c: by a higher priority of its group; at the same, by a higher
-- priority of its own; and at the same, by its number.
abbrev pub comes_before : Night → ℕ → ℕ → Bool
comes_before n d c =
    nat_lt (group_priority n c) (group_priority n d)
    || ((group_priority n d == group_priority n c)
    && (nat_lt (own_priority n c) (own_priority n d)
    || ((own_priority n d == own_priority n c) && nat_lt d c)))

-- Each command of a list comes before all later ones, so it stands there once.
abbrev pub AreInOrder : Night → List ℕ → Type 0
AreInOrder n chosen =
    (i j : ℕ) → i < j → j < length chosen
    → comes_before n (slice_index chosen i) (slice_index chosen j) ≡ true

-- Those of a list that come before command c.
abbrev pub before : Night → ℕ → List ℕ → List ℕ
before n c chosen = filter (λ d. comes_before n d c) chosen

-- ---- the choice

-- A pool has too little left for command c, after the busy commands and some others.
pub record IsFull (n : Night) (sizes : List ℕ) (c : ℕ) (others : List ℕ) : Type 0 where
  pub pool : ℕ
  pub wanted : 0 < takes_at n pool c
  pub full : slice_index sizes pool < in_use n pool + taken n pool others + takes_at n pool c

-- These commands are chosen: ready ones, in order, that together take no more of a pool than is
-- left of it; and a ready command is left out only for those that come before it.
pub record IsChosen (n : Night) (now : ℕ) (sizes : List ℕ) (chosen : List ℕ) : Type 0 where
  pub ready : All (IsReady n now) chosen
  pub order : AreInOrder n chosen
  pub within : (p : ℕ) → taken n p chosen ≤ slice_index sizes p - in_use n p
  pub first : (c : ℕ) → c < length n.commands → IsReady n now c
      → Contains chosen c ⊎ IsFull n sizes c (before n c chosen)

-- The least moment at which a waiting command is ready.
pub record IsLeastMoment (n : Night) (now moment : ℕ) : Type 0 where
  pub command : ℕ
  pub waits : IsWaiting n now command moment
  pub least : (c other : ℕ) → c < length n.commands → IsWaiting n now c other → moment ≤ other

abbrev pub IsLater : Night → ℕ → Option ℕ → Type 0
IsLater n now None = (c moment : ℕ) → c < length n.commands → IsWaiting n now c moment → ⊥
IsLater n now (Some moment) = IsLeastMoment n now moment

-- The choice in a night.
pub record IsChoice (n : Night) (now : ℕ) (sizes : List ℕ) (choice : Choice) : Type 0 where
  pub chosen : IsChosen n now sizes choice.commands.items
  pub later : IsLater n now choice.later

-- ---- a night goes on

-- Nothing is busy.
abbrev pub IsQuiet : Night → Type 0
IsQuiet n = (c : ℕ) → runs n c ≡ false

-- No command takes more of a pool than its size.
abbrev pub HasCapacity : Night → List ℕ → Type 0
HasCapacity n sizes = (c p : ℕ) → takes_at n p c ≤ slice_index sizes p

-- There is a command to begin, or a moment to wait for, or each command is final.
abbrev pub GoesOn : Night → ℕ → Choice → Type 0
GoesOn n now choice =
    (0 < length choice.commands.items)
    ⊎ ((moment : ℕ) × (choice.later ≡ Some moment) × (now < moment))
    ⊎ ((c : ℕ) → c < length n.commands → IsFinal n c)
