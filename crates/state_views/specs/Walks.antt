-- The nodes of a tree one after another, in the order in which they are drawn.
use Rattle.std.specs.Prelude.{◌≡◌, ◌<◌, ℕ, zero, suc, List, [], ◌++◌, length, Option}
use Rattle.std.specs.List.{flat_map}
use Rattle.std.specs.Option.{option_map_or}
use Rattle.state_views.specs.Trees.{above, drawn_below, later_siblings, parent_of}

-- A node and all nodes below it.
abbrev pub all_below : List ℕ → ℕ → List ℕ
all_below parents = drawn_below (length parents) parents

-- These nodes, each with all nodes below it.
abbrev pub forest : List ℕ → List ℕ → List ℕ
forest parents ns = flat_map (all_below parents) ns

-- The nodes that come after a node and all nodes below it: the later siblings, each with all nodes
-- below it, and then those that come after the parent. At most this many parents are followed.
abbrev pub after : ℕ → List ℕ → ℕ → List ℕ
after zero parents n = []
after (suc most) parents zero = []
after (suc most) parents (suc n) =
    forest parents (later_siblings parents (suc n))
    ++ after most parents (parent_of parents (suc n))

-- The nodes that are drawn from a node on: the node, all nodes below it, and those that come after
-- them.
abbrev pub drawn_from : List ℕ → ℕ → List ℕ
drawn_from parents n = all_below parents n ++ after n parents n

-- The nodes that are drawn from the next node on, if there is one.
abbrev pub drawn_next : List ℕ → Option ℕ → List ℕ
drawn_next parents next = option_map_or (drawn_from parents) next []

-- Every node except root has a parent with a lower number.
abbrev pub AreRising : List ℕ → Type 0
AreRising parents = (n : ℕ) → 0 < n → parent_of parents n < n

-- There is such a node, and this text is drawn for the nodes above it.
pub record IsAt (parents : List ℕ) (n : ℕ) (text : List ℕ) : Type 0 where
  pub within : n < length parents
  pub text_is : text ≡ above parents n
