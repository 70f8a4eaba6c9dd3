-- How the groups of a plan, and a night, are named in a store.
use Rattle.std.specs.Prelude.{ℕ, ◌==◌, ◌&&◌, ◌||◌, not, nat_le, Bool, true, false, List, codes}
use Rattle.std.specs.Prelude.{length, take, drop, slice_index, Option, Some, None}
use Rattle.std.specs.Str.{bytes_eq}
use Rattle.run_model.specs.State.{State}
use Rattle.run_model.specs.Scopes.{value_of}

-- A word begins with these bytes.
abbrev pub begins : (word prefix : List ℕ) → Bool
begins word prefix =
    nat_le (length prefix) (length word) && bytes_eq (take (length prefix) word) prefix

-- What can follow a group's name: nothing, or two hyphens and no third one.
abbrev pub is_round : List ℕ → Bool
is_round rest =
    length rest == 0
    || (slice_index rest 0 == 45 && slice_index rest 1 == 45 && not (slice_index rest 2 == 45))

-- A name in the store belongs to the plan's group of this name: it is that name, perhaps with a
-- round after it.
abbrev pub belongs : (group name : List ℕ) → Bool
belongs group name = begins name group && is_round (drop (length group) name)

-- The number of a scope's night is the nearest value of the key `night`. The first night of a store
-- has none.
abbrev pub night_of : State → ℕ → Option (List ℕ)
night_of p s = value_of p.tree.scopes s (codes "night")

-- Two nights are the same one.
abbrev pub is_same : Option (List ℕ) → Option (List ℕ) → Bool
is_same None None = true
is_same (Some a) (Some b) = bytes_eq a b
is_same None (Some b) = false
is_same (Some a) None = false
