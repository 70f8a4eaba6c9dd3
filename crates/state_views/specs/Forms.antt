-- The text of each row of a state in each form, and the text before all rows. Only private
-- functions use these definitions, and no public contract cites them.
use Rattle.std.specs.Prelude.{ℕ, List, [], Option}
use Rattle.std.specs.Borrow.{Bor}
use Rattle.std.specs.Option.{option_map}
use Rattle.run_model.specs.State.{State}
use Rattle.state_views.specs.declared.json_entries.Entry.TheVariants as entry
use Rattle.state_views.specs.declared.row_lines.Row.TheVariants as row
use Rattle.state_views.specs.Branches.{group_counted}
use Rattle.state_views.specs.Entries.{entry_text, group_item, scope_item}
use Rattle.state_views.specs.Inspected.{group_line, lines_below, row_line, scope_line, task_line}
use Rattle.state_views.specs.Listed.{listed_line}
use Rattle.state_views.specs.Summaries.{group_summed, scope_summed}
use Rattle.state_views.specs.Trees.{head_line, taken_of, tree_scope}
use Rattle.state_views.specs.declared.forms.Form.{Form}
use Rattle.state_views.specs.declared.forms.Form.TheVariants.{Line, Listed, Entry, Sum, Branch}
use Rattle.state_views.specs.declared.row_kinds.RowKind.{RowKind}
use Rattle.state_views.specs.declared.row_kinds.RowKind.TheVariants.{Scopes, Groups, Tasks}
use Rattle.state_views.specs.RowKinds.{count_of}

-- The bytes of the word that has to match, if there is one.
abbrev pub word_of : Option (Bor (List ℕ)) → Option (List ℕ)
word_of = option_map (λ word. word.now)

-- The text before all rows.
abbrev pub first_of : Form → State → List ℕ
first_of Line p = row_line (row.Counts p.count p.tree.clock)
first_of (Listed phase group) p = []
first_of Entry p = entry_text (entry.Store p.count p.tree.clock p.tree.layout)
first_of Sum p = head_line p.count p.tree.clock p.tree.layout (taken_of p)
first_of Branch p = head_line p.count p.tree.clock p.tree.layout (taken_of p)

-- The row with this number as a line.
abbrev pub line_of : RowKind → State → ℕ → List ℕ
line_of Scopes p = scope_line p
line_of Groups p = group_line p
line_of Tasks p = task_line p

-- The row with this number as an entry of a list. The list of tasks is defined elsewhere, because
-- it may leave out some of them.
abbrev pub item_of : RowKind → State → ℕ → List ℕ
item_of Scopes p = scope_item p
item_of Groups p = group_item p
item_of Tasks p = λ _. []

-- The row with this number as a line of a summary. A task has none.
abbrev pub sum_of : RowKind → State → ℕ → List ℕ
sum_of Scopes p = scope_summed p
sum_of Groups p = group_summed p
sum_of Tasks p = λ _. []

-- The row with this number as a line of a tree without tasks.
abbrev pub branch_of : RowKind → State → ℕ → List ℕ
branch_of Scopes p = tree_scope p
branch_of Groups p = group_counted p
branch_of Tasks p = λ _. []

-- The row with this number in this form.
abbrev pub text_of : Form → RowKind → State → ℕ → List ℕ
text_of Line rows p = line_of rows p
text_of (Listed phase group) rows p = listed_line (word_of phase) (word_of group) p
text_of Entry rows p = item_of rows p
text_of Sum rows p = sum_of rows p
text_of Branch rows p = branch_of rows p

-- The texts of all rows of this kind.
abbrev pub texts_of : Form → RowKind → State → List ℕ
texts_of form rows p = lines_below (text_of form rows p) (count_of rows p)
