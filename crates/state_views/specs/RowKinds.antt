-- The rows of a state by their kind: scopes, groups and tasks. Only private functions use these
-- definitions, and no public contract cites them.
use Rattle.std.specs.Prelude.{ℕ, ◌+◌, List, length, map}
use Rattle.run_model.specs.State.{State}
use Rattle.state_views.specs.declared.row_kinds.RowKind.{RowKind}
use Rattle.state_views.specs.declared.row_kinds.RowKind.TheVariants.{Scopes, Groups, Tasks}

-- The number of rows of this kind.
abbrev pub count_of : RowKind → State → ℕ
count_of Scopes p = length p.tree.scopes
count_of Groups p = length p.work.groups
count_of Tasks p = length p.work.tasks

-- The parent, in the tree, of each row of this kind.
abbrev pub parents_in : RowKind → State → List ℕ
parents_in Scopes p = map (λ row. row.parent) p.tree.scopes
parents_in Groups p = map (λ row. row.scope) p.work.groups
parents_in Tasks p = map (λ row. length p.tree.scopes + row.group) p.work.tasks
