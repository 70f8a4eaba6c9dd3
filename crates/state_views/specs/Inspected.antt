-- A whole state as lines.
use Rattle.std.specs.Prelude.{ℕ, zero, suc, ◌+◌, Bool, if◌then◌else◌, List, [], ◌∷◌, ◌++◌, length}
use Rattle.std.specs.Prelude.{codes, Option, Some, None}
use Rattle.std.specs.Option.{option_map_or, option_and_then, option_map}
use Rattle.std.specs.Fmt.{decimal}
use Rattle.run_model.specs.declared.answers.TaskLook.{TaskLook}
use Rattle.run_model.specs.State.{State}
use Rattle.run_model.specs.Questions.{look_of, group_look_of, task_look_of}
use Rattle.state_views.specs.declared.row_lines.Row.{Row}
use Rattle.state_views.specs.declared.row_lines.Row.TheVariants as row
use Rattle.console_lines.specs.Replies.{group_text, phase_text, scope_text}

-- A word, a number and a name, as in `scope 1 a `.
abbrev pub named : List ℕ → ℕ → List ℕ → List ℕ
named word n name = word ++ (codes " " ++ decimal n) ++ (codes " " ++ name) ++ codes " "

-- The task that this one retries, if it is a retry.
abbrev pub retry_text : Option ℕ → List ℕ
retry_text None = []
retry_text (Some n) = codes " retry of " ++ decimal n

-- The job, the argument and the phase of a task, and the task that it retries.
abbrev pub work_text : TaskLook → List ℕ
work_text look =
    look.job ++ (codes " " ++ look.argument) ++ codes " "
    ++ phase_text look.phase ++ retry_text look.retry_of

-- The text of a row, without its LF.
abbrev pub row_text : Row → List ℕ
row_text (row.Counts count clock) =
    codes "events " ++ decimal count ++ (codes "; clock " ++ decimal clock)
row_text (row.Scope s look) =
    named (codes "scope") s look.name ++ scope_text look.done look.deadline
row_text (row.Group g look) = named (codes "group") g look.name ++ group_text look
row_text (row.Task n group look) = named (codes "task") n group ++ work_text look

-- A row is written as one line.
abbrev pub row_line : Row → List ℕ
row_line row = row_text row ++ 10 ∷ []

-- The line of a row, or nothing if there is no row.
abbrev pub seen_line : Option Row → List ℕ
seen_line seen = option_map_or row_line seen []

-- The lines of the numbers below this one, in order.
abbrev pub lines_below : (ℕ → List ℕ) → ℕ → List ℕ
lines_below line zero = []
lines_below line (suc n) = lines_below line n ++ line n

-- How many numbers below this one pass the test.
abbrev pub count_below : (ℕ → Bool) → ℕ → ℕ
count_below test zero = 0
count_below test (suc n) = count_below test n + (if test n then 1 else 0)

-- The lines of a scope, a group and a task. That of a task has the name of its group.
abbrev pub scope_line : State → ℕ → List ℕ
scope_line p s = seen_line (option_map (row.Scope s) (look_of p s))

abbrev pub group_line : State → ℕ → List ℕ
group_line p g = seen_line (option_map (row.Group g) (group_look_of p g))

abbrev pub task_row : State → ℕ → Option Row
task_row p n = option_and_then
    (λ look. option_map (λ group. row.Task n group.name look) (group_look_of p look.group))
    (task_look_of p n)

abbrev pub task_line : State → ℕ → List ℕ
task_line p n = seen_line (task_row p n)

-- A whole state as lines: the number of events and the clock, and then each scope, each group and
-- each task.
abbrev pub inspected : State → List ℕ
inspected p =
    row_line (row.Counts p.count p.tree.clock)
    ++ (lines_below (scope_line p) (length p.tree.scopes)
    ++ (lines_below (group_line p) (length p.work.groups)
    ++ lines_below (task_line p) (length p.work.tasks)))
