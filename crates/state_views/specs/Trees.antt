-- The tree of a state: its nodes in their order, and the line of each node.
use Rattle.std.specs.Prelude.{ℕ, zero, suc, ◌+◌, ◌-◌, nat_eq, nat_lt, if◌then◌else◌}
use Rattle.std.specs.Prelude.{List, [], ◌∷◌, ◌++◌, length, drop, map, reverse}
use Rattle.std.specs.Prelude.{codes, slice_get}
use Rattle.std.specs.Fmt.{decimal}
use Rattle.std.specs.List.{flat_map}
use Rattle.std.specs.Option.{option_map_or}
use Rattle.run_model.specs.declared.bounds.TheConstants.{MOST_GROUPS}
use Rattle.run_model.specs.declared.answers.Look.{Look}
use Rattle.run_model.specs.declared.layouts.Layout.{Layout}
use Rattle.run_model.specs.declared.scopes.Kind.{Kind}
use Rattle.run_model.specs.declared.scopes.Kind.TheVariants as kind
use Rattle.run_model.specs.Layouts.{most_scopes, most_tasks}
use Rattle.run_model.specs.Questions.{look_of}
use Rattle.run_model.specs.State.{State}
use Rattle.state_views.specs.declared.row_lines.Row.TheVariants as row
use Rattle.state_views.specs.declared.tree_lines.Taken.{Taken}
use Rattle.state_views.specs.Entries.{kind_word}
use Rattle.state_views.specs.Inspected.{group_line, named, row_text, task_line}
use Rattle.console_lines.specs.Replies.{scope_text}

-- ---- nodes

-- The nodes are the scopes, then the groups, then the tasks, each in the order of their numbers.
-- The parent of a scope is the scope from which it was derived, and root is its own parent. The
-- parent of a group is its scope, and the parent of a task is its group.
abbrev pub parents_of : State → List ℕ
parents_of p =
    map (λ row. row.parent) p.tree.scopes
    ++ (map (λ row. row.scope) p.work.groups
    ++ map (λ row. length p.tree.scopes + row.group) p.work.tasks)

-- The parent of node n.
abbrev pub parent_of : List ℕ → ℕ → ℕ
parent_of parents n = option_map_or (λ parent. parent) (slice_get parents n) 0

-- The numbers of the nodes in this list that have this parent. The first node of the list has this
-- number, `place`.
abbrev pub places_of : (parent place : ℕ) → List ℕ → List ℕ
places_of parent place [] = []
places_of parent place (first ∷ rest) =
    if nat_eq first parent
    then place ∷ places_of parent (suc place) rest
    else places_of parent (suc place) rest

-- The nodes after node n that have this parent.
abbrev pub behind : List ℕ → (n parent : ℕ) → List ℕ
behind parents n parent = places_of parent (suc n) (drop (suc n) parents)

-- The children of a node, and its later siblings, are among the nodes after it.
abbrev pub children : List ℕ → ℕ → List ℕ
children parents n = behind parents n n

abbrev pub later_siblings : List ℕ → ℕ → List ℕ
later_siblings parents n = behind parents n (parent_of parents n)

-- A node and all nodes below it, in the order in which they are drawn: the node, and then each
-- child with all nodes below it. At most this number of levels is drawn.
abbrev pub drawn_below : ℕ → List ℕ → ℕ → List ℕ
drawn_below zero parents n = []
drawn_below (suc levels) parents n =
    n ∷ flat_map (drawn_below levels parents) (children parents n)

-- All nodes in this order. A child has a greater number than its parent, so there are no more
-- levels than nodes.
abbrev pub drawn : List ℕ → List ℕ
drawn parents = drawn_below (length parents) parents 0

-- ---- the beginning of a line

-- The nodes from this one upwards, without root, and at most this many.
abbrev pub upwards : ℕ → List ℕ → ℕ → List ℕ
upwards zero parents n = []
upwards (suc most) parents n =
    if nat_eq n 0 then [] else n ∷ upwards most parents (parent_of parents n)

-- In UTF-8: `│ `, `├─` and `└─`.
abbrev pub bar : List ℕ
bar = 226 ∷ 148 ∷ 130 ∷ 32 ∷ []

abbrev pub branch : List ℕ
branch = 226 ∷ 148 ∷ 156 ∷ 226 ∷ 148 ∷ 128 ∷ []

abbrev pub corner : List ℕ
corner = 226 ∷ 148 ∷ 148 ∷ 226 ∷ 148 ∷ 128 ∷ []

-- The first of two texts if siblings of the node follow, and the second if none does.
abbrev pub by_siblings : (more last : List ℕ) → List ℕ → ℕ → List ℕ
by_siblings more last parents n =
    if nat_eq (length (later_siblings parents n)) 0 then last else more

-- The text that is drawn for a node in the lines of the nodes below it (`passing`), and in its own
-- line (`mark`).
abbrev pub passing : List ℕ → ℕ → List ℕ
passing = by_siblings bar (codes "  ")

abbrev pub mark : List ℕ → ℕ → List ℕ
mark = by_siblings branch corner

-- The text that is drawn for the nodes above a node, beginning at the top. Nothing is drawn for
-- root.
abbrev pub above : List ℕ → ℕ → List ℕ
above parents n =
    flat_map (passing parents) (reverse (upwards n parents (parent_of parents n)))

-- A line begins with the text that is drawn for the nodes above its node, and with the node's own
-- mark. The line of root has neither.
abbrev pub lead : List ℕ → ℕ → List ℕ
lead parents n = if nat_eq n 0 then [] else (above parents n ++ mark parents n)

-- ---- lines

-- The kind of a scope. If it holds a value, the key and the text follow.
abbrev pub kind_text : Kind → List ℕ
kind_text (kind.Value key text) = codes "value " ++ key ++ (codes " " ++ text)
kind_text kind = kind_word kind

-- The line of a scope: its number, its name, its kind, and then the reply to a question about it.
abbrev pub kind_line : ℕ → Kind → Look → List ℕ
kind_line s kind look =
    named (codes "scope") s look.name ++ kind_text kind ++ codes "; "
    ++ scope_text look.done look.deadline ++ 10 ∷ []

abbrev pub tree_scope : State → ℕ → List ℕ
tree_scope p s = option_map_or (λ row. option_map_or (kind_line s row.kind) (look_of p s) [])
    (slice_get p.tree.scopes s) []

-- The lines of groups and tasks are those of a state that is printed as lines.
abbrev pub work_line : State → ℕ → List ℕ
work_line p n =
    if nat_lt n (length p.work.groups)
    then group_line p n
    else task_line p (n - length p.work.groups)

-- How many rows of a kind the store has, and how many it can have, as in `; tasks 2 of 8192`.
abbrev pub taken_text : List ℕ → (count most : ℕ) → List ℕ
taken_text word count most =
    codes "; " ++ word ++ (codes " " ++ decimal count) ++ (codes " of " ++ decimal most)

-- How full a store of this layout is.
abbrev pub fullness : Layout → Taken → List ℕ
fullness layout taken =
    taken_text (codes "scopes") taken.scopes (most_scopes layout)
    ++ taken_text (codes "groups") taken.groups MOST_GROUPS
    ++ taken_text (codes "tasks") taken.tasks (most_tasks layout)

-- The first line: the number of events, the clock, and how full the store is.
abbrev pub head_line : (count clock : ℕ) → Layout → Taken → List ℕ
head_line count clock layout taken =
    row_text (row.Counts count clock) ++ fullness layout taken ++ 10 ∷ []

-- The number of rows that a state takes in its store.
abbrev pub taken_of : State → Taken
taken_of p = record {
  scopes = length p.tree.scopes;
  groups = length p.work.groups;
  tasks = length p.work.tasks;
}
