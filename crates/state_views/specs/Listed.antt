-- The lines of the tasks that match a phase and a group.
use Rattle.std.specs.Prelude.{ℕ, Bool, true, false, ◌&&◌, List, length, codes, Option, Some, None}
use Rattle.std.specs.Prelude.{if◌then◌else◌}
use Rattle.std.specs.Option.{option_and_then}
use Rattle.std.specs.Str.{bytes_eq}
use Rattle.run_model.specs.State.{State}
use Rattle.console_lines.specs.Replies.{phase_word}
use Rattle.state_views.specs.declared.row_lines.Row.{Row}
use Rattle.state_views.specs.declared.row_lines.Row.TheVariants as row
use Rattle.state_views.specs.Inspected.{lines_below, seen_line, task_row}

-- The word is the given one. If none is given, every word matches.
abbrev pub is_as_asked : Option (List ℕ) → List ℕ → Bool
is_as_asked None word = true
is_as_asked (Some asked) word = bytes_eq asked word

-- A row is listed if it is the row of a task with the given phase and group.
abbrev pub is_listed : (phase group : Option (List ℕ)) → Row → Bool
is_listed phase group (row.Task n name look) =
    is_as_asked phase (phase_word look.phase) && is_as_asked group name
is_listed phase group _ = false

-- The row, if it is listed.
abbrev pub if_listed : (phase group : Option (List ℕ)) → Row → Option Row
if_listed phase group row = if is_listed phase group row then Some row else None

-- The row and the line of a task that is listed. A task that isn't listed has none.
abbrev pub listed_row : (phase group : Option (List ℕ)) → State → ℕ → Option Row
listed_row phase group p n = option_and_then (if_listed phase group) (task_row p n)

abbrev pub listed_line : (phase group : Option (List ℕ)) → State → ℕ → List ℕ
listed_line phase group p n = seen_line (listed_row phase group p n)

-- The lines of the listed tasks, in order, each as in a whole state. If a phase is given, only
-- tasks in this phase are listed, and if the name of a group is given, only tasks of this group.
abbrev pub listed : (phase group : Option (List ℕ)) → State → List ℕ
listed phase group p = lines_below (listed_line phase group p) (length p.work.tasks)
