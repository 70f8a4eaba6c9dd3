-- An index of a plan's commands. (For private functions: no public contract cites it.)
use Rattle.std.specs.Prelude.{◌≡◌, ◌<◌, ℕ, ◌==◌, ◌&&◌, Bool, List, Option, Some, IsSome, slice_get}
use Rattle.std.specs.HashMap as hash
use Rattle.std.specs.Str.{bytes_eq}
use Rattle.night_plan.specs.declared.commands.Command.{Command}
use Rattle.night_drive.specs.declared.index.Index.{Index}
use Rattle.night_drive.specs.declared.keys.GroupKey.{GroupKey}
use Rattle.night_drive.specs.declared.names.Names.{Names}

-- Two keys are the same, in the same group.
abbrev pub same_key : GroupKey → GroupKey → Bool
same_key a b = a.group == b.group && bytes_eq a.key b.key

-- What the index finds for a group and a key.
abbrev pub found_in : Index → (g : ℕ) → (key : List ℕ) → Option ℕ
found_in index g key = hash.get same_key index.commands (record { group = g; key = key })

-- Command c of the plan belongs to group g, and has this key.
pub record IsKeyed (commands : List Command) (names : Names) (c g : ℕ) (key : List ℕ)
    : Type 0 where
  pub command : Command
  pub is : slice_get commands c ≡ Some command
  pub group_is : command.group ≡ g
  pub key_is : slice_get names.keys.items c ≡ Some key

-- The index finds a command for the group and the key of each of the first commands, and whatever
-- it finds for a group and a key is a command of this group with this key.
pub record IsIndex (most : ℕ) (commands : List Command) (names : Names) (index : Index)
    : Type 0 where
  pub sound : (g c : ℕ) (key : List ℕ) → found_in index g key ≡ Some c
      → IsKeyed commands names c g key
  pub complete : (c g : ℕ) (key : List ℕ) → c < most → IsKeyed commands names c g key
      → IsSome (found_in index g key)
