use Rattle.std.proofs.Common.{◌≡◌, ◌++◌, take}
use Rattle.state_views.specs.RowKinds.{parents_in}
use Rattle.state_views.proofs.trees.push_rows.Given as goal

-- The parents of the first ones were appended.
abbrev pub invariant-loop-number : goal.invariant-loop-number
invariant-loop-number g l =
    l.parents.items ≡ l.initial.parents.items ++ take l.number (parents_in l.rows l.state)
