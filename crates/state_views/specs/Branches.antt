-- A whole state as a tree: how full the store is, and a line for each scope, group and task, below
-- the line of its parent. The tree may leave out the tasks. Then the line of a group says how many
-- of its tasks are in each phase.
use Rattle.std.specs.Prelude.{ℕ, ◌-◌, nat_lt, Bool, if◌then◌else◌, List, [], ◌∷◌, ◌++◌, length}
use Rattle.std.specs.Prelude.{map}
use Rattle.std.specs.List.{flat_map}
use Rattle.std.specs.Option.{option_map_or}
use Rattle.run_model.specs.declared.answers.GroupLook.{GroupLook}
use Rattle.run_model.specs.Questions.{group_look_of}
use Rattle.run_model.specs.State.{State}
use Rattle.state_views.specs.declared.summary_lines.Phases.{Phases}
use Rattle.state_views.specs.Summaries.{counted_group, phases_of}
use Rattle.state_views.specs.Trees.{drawn, head_line, lead, parents_of, taken_of, tree_scope}
use Rattle.state_views.specs.Trees.{work_line}

-- The nodes without the tasks: the scopes, and then the groups.
abbrev pub branches_of : State → List ℕ
branches_of p = map (λ row. row.parent) p.tree.scopes ++ map (λ row. row.scope) p.work.groups

abbrev pub nodes_of : (no_tasks : Bool) → State → List ℕ
nodes_of no_tasks p = if no_tasks then branches_of p else parents_of p

-- The line of a group whose tasks aren't drawn: the group, and how many of its tasks are in each
-- phase.
abbrev pub tree_group : ℕ → GroupLook → Phases → List ℕ
tree_group g group phases = counted_group g group phases ++ 10 ∷ []

abbrev pub group_counted : State → ℕ → List ℕ
group_counted p g =
    option_map_or (λ group. tree_group g group (phases_of p g)) (group_look_of p g) []

-- The text of a node's line, after the branches and the mark before it.
abbrev pub own_work : (no_tasks : Bool) → State → ℕ → List ℕ
own_work no_tasks p n = if no_tasks then group_counted p n else work_line p n

abbrev pub own_line : (no_tasks : Bool) → State → ℕ → List ℕ
own_line no_tasks p n =
    if nat_lt n (length p.tree.scopes)
    then tree_scope p n
    else own_work no_tasks p (n - length p.tree.scopes)

-- The whole line of a node.
abbrev pub node_line : (no_tasks : Bool) → State → ℕ → List ℕ
node_line no_tasks p n = lead (nodes_of no_tasks p) n ++ own_line no_tasks p n

-- Everything that is drawn of a state: the first line, and the lines of the nodes, in order.
abbrev pub tree_text : (no_tasks : Bool) → State → List ℕ
tree_text no_tasks p =
    head_line p.count p.tree.clock p.tree.layout (taken_of p)
    ++ flat_map (node_line no_tasks p) (drawn (nodes_of no_tasks p))
