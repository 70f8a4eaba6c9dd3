-- A whole state as one object of JSON.
use Rattle.std.specs.Prelude.{ℕ, Bool, nat_eq, ◌||◌, if◌then◌else◌, List, [], ◌∷◌, ◌++◌, length}
use Rattle.std.specs.Prelude.{codes, Option, Some, None, is_some, slice_get}
use Rattle.std.specs.List.{flat_map}
use Rattle.std.specs.Option.{option_map_or, option_and_then, option_map}
use Rattle.std.specs.Fmt.{decimal}
use Rattle.run_model.specs.declared.answers.GroupLook.{GroupLook}
use Rattle.run_model.specs.declared.answers.Look.{Look}
use Rattle.run_model.specs.declared.answers.TaskLook.{TaskLook}
use Rattle.run_model.specs.declared.bounds.TheConstants.{MOST_GROUPS}
use Rattle.run_model.specs.declared.layouts.Layout.{Layout}
use Rattle.run_model.specs.declared.layouts.Layout.TheVariants.{Small, Large}
use Rattle.run_model.specs.declared.scopes.Kind.{Kind}
use Rattle.run_model.specs.declared.scopes.Kind.TheVariants as kind
use Rattle.run_model.specs.declared.scopes.Reason.{Reason}
use Rattle.run_model.specs.declared.tasks.Phase.{Phase}
use Rattle.run_model.specs.declared.tasks.Phase.TheVariants as phase
use Rattle.run_model.specs.Layouts.{most_scopes, most_tasks}
use Rattle.run_model.specs.Questions.{look_of, group_look_of}
use Rattle.run_model.specs.Reasons.{reason_text}
use Rattle.run_model.specs.State.{State}
use Rattle.state_views.specs.declared.json_entries.Entry.{Entry}
use Rattle.state_views.specs.declared.json_entries.Entry.TheVariants as entry
use Rattle.state_views.specs.declared.row_lines.Row.{Row}
use Rattle.state_views.specs.declared.row_lines.Row.TheVariants as row
use Rattle.state_views.specs.Inspected.{count_below, lines_below}
use Rattle.console_lines.specs.Replies.{phase_word}
use Rattle.state_views.specs.Listed.{listed_row}

-- A string puts a backslash before each quotation mark and each backslash.
abbrev pub is_escaped : ℕ → Bool
is_escaped b = nat_eq b 34 || nat_eq b 92

abbrev pub string_byte : ℕ → List ℕ
string_byte b = if is_escaped b then 92 ∷ b ∷ [] else b ∷ []

-- Bytes between quotation marks.
abbrev pub quoted : List ℕ → List ℕ
quoted bytes = codes "\"" ++ (bytes ++ codes "\"")

-- A text as a string of JSON.
abbrev pub string_text : List ℕ → List ℕ
string_text text = quoted (flat_map string_byte text)

-- A number, a string and a truth value. A number or a string that is missing is `null`.
abbrev pub number_or_null : Option ℕ → List ℕ
number_or_null None = codes "null"
number_or_null (Some n) = decimal n

abbrev pub string_or_null : Option (List ℕ) → List ℕ
string_or_null None = codes "null"
string_or_null (Some text) = string_text text

abbrev pub truth_text : Bool → List ℕ
truth_text is_so = if is_so then codes "true" else codes "false"

-- ---- the store

abbrev pub layout_word : Layout → List ℕ
layout_word Small = codes "small"
layout_word Large = codes "large"

-- ---- a scope

abbrev pub kind_word : Kind → List ℕ
kind_word kind.Root = codes "root"
kind_word kind.Cancel = codes "cancel"
kind_word kind.Cause = codes "cause"
kind_word (kind.Deadline moment cause) = codes "deadline"
kind_word (kind.Value key text) = codes "value"
kind_word kind.Detached = codes "detached"
kind_word kind.Group = codes "group"

-- The number of its parent. Root's is `null`.
abbrev pub parent_text : Kind → ℕ → List ℕ
parent_text kind.Root parent = codes "null"
parent_text _ parent = decimal parent

-- Its key and its value, or `null` for both.
abbrev pub held_text : Kind → List ℕ
held_text (kind.Value key text) =
    codes ",\"key\":" ++ quoted key ++ (codes ",\"value\":" ++ string_text text)
held_text _ = codes ",\"key\":null,\"value\":null"

-- Whether it is done, and the reason and the cause if it is.
abbrev pub done_text : Option (Reason × List ℕ) → List ℕ
done_text None = codes ",\"done\":false,\"reason\":null,\"cause\":null}"
done_text (Some ending) =
    codes ",\"done\":true,\"reason\":" ++ quoted (reason_text ending.0)
    ++ (codes ",\"cause\":" ++ string_text ending.1) ++ codes "}"

-- The number and the name of a scope or a group.
abbrev pub opened_text : ℕ → List ℕ → List ℕ
opened_text n name = codes "{\"number\":" ++ decimal n ++ (codes ",\"name\":" ++ quoted name)

-- ---- a task

-- The error with which it failed, if it did.
abbrev pub failure_of : Phase → Option (List ℕ)
failure_of (phase.Failure error) = Some error
failure_of _ = None

-- ---- objects

-- The object of the store begins with the version of this whole form.
abbrev pub store_object : ℕ → ℕ → Layout → List ℕ
store_object count clock layout =
    codes "{\"version\":1,\"count\":" ++ decimal count
    ++ (codes ",\"clock\":" ++ decimal clock)
    ++ (codes ",\"layout\":" ++ quoted (layout_word layout))
    ++ (codes ",\"room\":{\"scopes\":" ++ decimal (most_scopes layout))
    ++ (codes ",\"groups\":" ++ decimal MOST_GROUPS)
    ++ (codes ",\"tasks\":" ++ decimal (most_tasks layout))
    ++ codes "}"

abbrev pub scope_object : ℕ → ℕ → Kind → Look → List ℕ
scope_object n parent kind look =
    opened_text n look.name
    ++ (codes ",\"parent\":" ++ parent_text kind parent)
    ++ (codes ",\"kind\":" ++ quoted (kind_word kind))
    ++ held_text kind
    ++ (codes ",\"deadline\":" ++ number_or_null look.deadline)
    ++ done_text look.done

abbrev pub group_object : ℕ → GroupLook → List ℕ
group_object n look =
    opened_text n look.name
    ++ (codes ",\"scope\":" ++ decimal look.scope)
    ++ (codes ",\"limit\":" ++ number_or_null look.limit)
    ++ (codes ",\"waited\":" ++ truth_text look.waited)
    ++ (codes ",\"unfinished\":" ++ decimal look.unfinished)
    ++ (codes ",\"error\":" ++ string_or_null look.error)
    ++ codes "}"

-- The object of a task has the number of its group, and then the name of the group.
abbrev pub task_object : ℕ → (group : List ℕ) → TaskLook → List ℕ
task_object n group look =
    codes "{\"number\":" ++ decimal n
    ++ (codes ",\"group\":" ++ decimal look.group)
    ++ (codes ",\"group_name\":" ++ quoted group)
    ++ (codes ",\"job\":" ++ quoted look.job)
    ++ (codes ",\"argument\":" ++ quoted look.argument)
    ++ (codes ",\"phase\":" ++ quoted (phase_word look.phase))
    ++ (codes ",\"error\":" ++ string_or_null (failure_of look.phase))
    ++ (codes ",\"retry_of\":" ++ number_or_null look.retry_of)
    ++ codes "}"

-- The text of an entry. The object of the store isn't closed, because the lists follow in it.
abbrev pub entry_text : Entry → List ℕ
entry_text (entry.Store count clock layout) = store_object count clock layout
entry_text (entry.Scope n parent kind look) = scope_object n parent kind look
entry_text (entry.Group n look) = group_object n look
entry_text (entry.Task n group look) = task_object n group look

-- Each entry of a list begins a new line. Before the new line comes a comma, unless the entry is
-- the first one.
abbrev pub separator : Bool → List ℕ
separator first = if first then codes "\n" else codes ",\n"

abbrev pub listed_entry : (place : ℕ) → Option Entry → List ℕ
listed_entry place seen =
    option_map_or (λ entry. separator (nat_eq place 0) ++ entry_text entry) seen []

abbrev pub scope_entry : State → ℕ → Option Entry
scope_entry p s = option_and_then
    (λ row. option_map (λ look. entry.Scope s row.parent row.kind look) (look_of p s))
    (slice_get p.tree.scopes s)

abbrev pub scope_item : State → ℕ → List ℕ
scope_item p s = listed_entry s (scope_entry p s)

abbrev pub group_item : State → ℕ → List ℕ
group_item p g = listed_entry g (option_map (entry.Group g) (group_look_of p g))

-- A task has an entry exactly if it has a line in the list of tasks.
abbrev pub entry_of : Row → Option Entry
entry_of (row.Task n group look) = Some (entry.Task n group look)
entry_of _ = None

abbrev pub task_entry : (phase group : Option (List ℕ)) → State → ℕ → Option Entry
task_entry phase group p n = option_and_then entry_of (listed_row phase group p n)

-- Its place in the list is the number of tasks that are listed before it.
abbrev pub place_of : (phase group : Option (List ℕ)) → State → ℕ → ℕ
place_of phase group p n = count_below (λ i. is_some (task_entry phase group p i)) n

abbrev pub task_item : (phase group : Option (List ℕ)) → State → ℕ → List ℕ
task_item phase group p n =
    listed_entry (place_of phase group p n) (task_entry phase group p n)

abbrev pub task_items : (phase group : Option (List ℕ)) → State → List ℕ
task_items phase group p = lines_below (task_item phase group p) (length p.work.tasks)

-- A whole state as JSON is one object. It has the number of events, the clock, the layout and its
-- capacity, and then three lists: of the scopes, of the groups, and of the tasks. The list of tasks
-- has only those in the given phase, if one is given, and only those of the group with the given
-- name, if one is given.
abbrev pub json_text : (phase group : Option (List ℕ)) → State → List ℕ
json_text phase group p =
    entry_text (entry.Store p.count p.tree.clock p.tree.layout)
    ++ (codes ",\n\"scopes\":["
    ++ (lines_below (scope_item p) (length p.tree.scopes)
    ++ (codes "],\n\"groups\":["
    ++ (lines_below (group_item p) (length p.work.groups)
    ++ (codes "],\n\"tasks\":["
    ++ (task_items phase group p ++ codes "]}\n"))))))
