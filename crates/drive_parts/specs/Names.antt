-- Names of groups and keys of commands that a night can have.
use Rattle.std.specs.Prelude.{◌≡◌, ◌<◌, ◌≤◌, ◌+◌, ◌⊎◌, ℕ, List, Some, codes, length, map, slice_get}
use Rattle.std.specs.Prelude.{slice_index}
use Rattle.night_plan.specs.declared.commands.Command.{Command}

-- A name without two hyphens in a row. (45 is a hyphen, and after the end each byte is 0.)
abbrev pub IsPlain : List ℕ → Type 0
IsPlain name = (i : ℕ) → slice_index name i ≡ 45 → slice_index name (i + 1) ≡ 45 → ⊥

-- A group of the store is named after this one, with the number of a night after it, and so are the
-- scopes around it. So the name is short and plain, and isn't that of the scope of all groups.
pub record IsGroupName (name : List ℕ) : Type 0 where
  pub short : length name ≤ 20
  pub plain : IsPlain name
  pub other : name ≡ codes "night" → ⊥

-- Each group has such a name of its own.
pub record AreGroupNames (names : List (List ℕ)) : Type 0 where
  pub each : (g : ℕ) (name : List ℕ) → slice_get names g ≡ Some name → IsGroupName name
  pub own : (g h : ℕ) (name : List ℕ) → slice_get names g ≡ Some name
      → slice_get names h ≡ Some name → g ≡ h

-- The group of each command.
abbrev pub groups_of : List Command → List ℕ
groups_of commands = map (λ (command : Command). command.group) commands

-- By the groups of the commands and by their keys, command c is in this group, and has this key.
pub record HasKey (groups : List ℕ) (keys : List (List ℕ)) (group : ℕ) (key : List ℕ) (c : ℕ)
    : Type 0 where
  pub is_in : slice_get groups c ≡ Some group
  pub has : slice_get keys c ≡ Some key

-- Each command has a key that no other command of its group has.
abbrev pub AreKeys : (groups : List ℕ) → (keys : List (List ℕ)) → Type 0
AreKeys groups keys =
    (c d group : ℕ) (key : List ℕ) → HasKey groups keys group key c
    → HasKey groups keys group key d → c ≡ d

-- This group can't have its name, because no group can, or because an earlier group has it.
pub record IsRefusedName (names : List (List ℕ)) (g : ℕ) : Type 0 where
  pub name : List ℕ
  pub is : slice_get names g ≡ Some name
  pub why : (IsGroupName name → ⊥) ⊎ ((h : ℕ) × (h < g) × (slice_get names h ≡ Some name))

-- This command has the key of an earlier one of its group.
pub record IsTwice (groups : List ℕ) (keys : List (List ℕ)) (c : ℕ) : Type 0 where
  pub group : ℕ
  pub key : List ℕ
  pub has : HasKey groups keys group key c
  pub earlier : (b : ℕ) × (b < c) × HasKey groups keys group key b
