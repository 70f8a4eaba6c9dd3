-- What the lines of a plan say, and when a plan is sound.
use Rattle.std.specs.Prelude.{◌≡◌, ◌<◌, ◌≤◌, ◌==◌, ◌&&◌, ℕ, Bool, true, false, List, Some}
use Rattle.std.specs.Prelude.{Contains, length, max, nat_lt, slice_get, slice_index}
use Rattle.std.specs.Option.{option_map_or}
use Rattle.night_plan.specs.declared.commands.Group.{Group as GroupLine}
use Rattle.night_plan.specs.declared.commands.Take.{Take}
use Rattle.night_plan.specs.declared.commands.Subject.{Subject}
use Rattle.night_plan.specs.declared.commands.Subject.TheVariants as subject
use Rattle.night_plan.specs.declared.commands.Need.{Need}
use Rattle.night_plan.specs.declared.commands.Command.{Command}

-- Command c is of group g.
abbrev pub is_of : List Command → ℕ → ℕ → Bool
is_of commands g c = option_map_or (λ command. command.group == g) (slice_get commands c) false

-- The needs of command c can name commands below this number: all commands of the first plan, for
-- one of these, and all commands before it, for one that was added later.
abbrev pub horizon : ℕ → ℕ → ℕ
horizon first c = max first c

-- A subject that can name commands below a number names command d, by itself or by its group.
abbrev pub names : List Command → ℕ → Subject → ℕ → Bool
names commands below (subject.Command e) d = e == d
names commands below (subject.Group g) d = nat_lt d below && is_of commands g d

-- Command c has this need.
pub record HasNeed (commands : List Command) (c : ℕ) (need : Need) : Type 0 where
  pub command : Command
  pub is : slice_get commands c ≡ Some command
  pub listed : Contains command.needs.items need

-- Command c comes after command d: a need of it names d.
pub record ComesAfter (first : ℕ) (commands : List Command) (c d : ℕ) : Type 0 where
  pub need : Need
  pub has : HasNeed commands c need
  pub named : names commands (horizon first c) need.of d ≡ true

-- A subject is a command below a number, or a group of the plan.
abbrev pub is_within : ℕ → ℕ → Subject → Bool
is_within groups below (subject.Command d) = nat_lt d below
is_within groups below (subject.Group g) = nat_lt g groups

-- Each line names groups, pools and commands of the plan; the order has each command, at its
-- place; a command stands after all that it comes after, and after no others than its needs can
-- name.
pub record IsSound (first : ℕ) (groups : List GroupLine) (pools : ℕ) (commands : List Command)
    (order places : List ℕ) : Type 0 where
  pub bounded : first ≤ length commands
  pub own : (c : ℕ) (command : Command) → slice_get commands c ≡ Some command
      → command.group < length groups
  pub takes : (c : ℕ) (command : Command) (take : Take) → slice_get commands c ≡ Some command
      → Contains command.takes.items take → take.pool < pools
  pub within : (c : ℕ) (need : Need) → HasNeed commands c need
      → is_within (length groups) (horizon first c) need.of ≡ true
  pub sized : length places ≡ length commands
  pub placed : (c : ℕ) → c < length commands → slice_get order (slice_index places c) ≡ Some c
  pub inside : (p c : ℕ) → slice_get order p ≡ Some c → c < length commands
  pub at : (p c : ℕ) → slice_get order p ≡ Some c → slice_index places c ≡ p
  pub after : (c d : ℕ) → ComesAfter first commands c d
      → slice_index places d < slice_index places c
  pub before : (c d : ℕ) → c < length commands → d < length commands
      → slice_index places d < slice_index places c → d < horizon first c
