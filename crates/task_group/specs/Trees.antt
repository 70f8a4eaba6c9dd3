-- A tree of flags, as a list of nodes. Node 1 is the root, the children of node k are nodes 2k and
-- 2k + 1, and the leaves are the second half of the list.
use Rattle.std.specs.Prelude.{◌≡◌, ◌<◌, ◌≤◌, ℕ, zero, suc, ◌+◌, Bool, false, ◌||◌, List, length}
use Rattle.std.specs.Prelude.{slice_index_or, slice_set, Option, Some, None, true, if◌then◌else◌}
use Rattle.run_model.specs.declared.bounds.TheConstants.{MOST_TASKS}

-- The flag of a node is up. If there is no such node, it is down.
abbrev pub is_up : List Bool → ℕ → Bool
is_up nodes k = slice_index_or nodes k false

-- The flag of a node is up if that of one of its children is, and only then.
abbrev pub IsRight : List Bool → ℕ → Type 0
IsRight nodes k = is_up nodes k ≡ (is_up nodes (k + k) || is_up nodes (k + k + 1))

-- The first of the nodes that are this many levels below node k.
abbrev pub first_leaf : ℕ → ℕ → ℕ
first_leaf zero k = k
first_leaf (suc levels) k = first_leaf levels (k + k)

-- The nodes are such a tree, with all leaves at the same level.
pub record IsTree (leaves : ℕ) (nodes : List Bool) : Type 0 where
  pub few : leaves ≤ MOST_TASKS
  pub size : length nodes ≡ leaves + leaves
  pub levels : ℕ
  pub even : first_leaf levels 1 ≡ leaves
  pub right : (k : ℕ) → 1 ≤ k → k < leaves → IsRight nodes k

-- The left child of node k if its flag is up, and otherwise the right one.
abbrev pub way_down : List Bool → ℕ → ℕ
way_down nodes k = if is_up nodes (k + k) then k + k else k + k + 1

-- The flags after the flag of this number, if there is one, was raised.
abbrev pub with_flag : Option ℕ → List Bool → List Bool
with_flag None flags = flags
with_flag (Some n) flags = slice_set flags n true
