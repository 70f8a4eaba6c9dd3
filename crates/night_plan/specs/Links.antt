-- Commands of a group, each linked to the one before it.
use Rattle.std.specs.Prelude.{◌≡◌, ◌<◌, ◌≤◌, ◌-◌, ℕ, true, List, Some, length, slice_get}
use Rattle.std.specs.Prelude.{slice_index}
use Rattle.night_plan.specs.declared.commands.Command.{Command}
use Rattle.night_plan.specs.Plans.{is_of}

-- Of the commands of group g below number i, the last is the one before number b; if b is 0, there
-- is none.
pub record IsLastBelow (commands : List Command) (g i b : ℕ) : Type 0 where
  pub bounded : b ≤ i
  pub of : 0 < b → is_of commands g (b - 1) ≡ true
  pub last : (d : ℕ) → is_of commands g d ≡ true → d < i → d < b

-- The links of the commands below number i.
pub record AreLinks (commands : List Command) (groups i : ℕ) (before last : List ℕ) : Type 0 where
  pub sized : length before ≡ i
  pub grouped : length last ≡ groups
  pub each : (c : ℕ) (command : Command) → c < i → slice_get commands c ≡ Some command
      → IsLastBelow commands command.group c (slice_index before c)
  pub ends : (g : ℕ) → g < groups → IsLastBelow commands g i (slice_index last g)

-- Each command of group g from number b on has a rank, and the one before b is of the group.
pub record IsRankedFrom (commands : List Command) (ranks : List ℕ) (g b : ℕ) : Type 0 where
  pub of : 0 < b → is_of commands g (b - 1) ≡ true
  pub ranked : (d : ℕ) → is_of commands g d ≡ true → b ≤ d → 0 < slice_index ranks d
