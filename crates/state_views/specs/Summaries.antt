-- A summary of a state: how full the store is, then a line for each group, and then a line for each
-- scope that is done and doesn't belong to a group.
use Rattle.std.specs.Prelude.{ℕ, nat_eq, Bool, false, ◌&&◌, if◌then◌else◌, is_some}
use Rattle.std.specs.Prelude.{List, [], ◌∷◌, ◌++◌, length, codes, slice_get, Option, Some, None}
use Rattle.std.specs.Fmt.{decimal}
use Rattle.std.specs.Option.{option_map_or}
use Rattle.std.specs.Str.{bytes_eq}
use Rattle.run_model.specs.declared.answers.GroupLook.{GroupLook}
use Rattle.run_model.specs.declared.answers.Look.{Look}
use Rattle.run_model.specs.declared.answers.TaskLook.{TaskLook}
use Rattle.run_model.specs.declared.scopes.Kind.{Kind}
use Rattle.run_model.specs.declared.scopes.Kind.TheVariants as kind
use Rattle.run_model.specs.Questions.{group_look_of, look_of, task_look_of}
use Rattle.run_model.specs.State.{State}
use Rattle.console_lines.specs.Dates.{moment_text}
use Rattle.state_views.specs.declared.summary_lines.Phases.{Phases}
use Rattle.state_views.specs.Inspected.{count_below, lines_below, named}
use Rattle.console_lines.specs.Replies.{phase_word}
use Rattle.console_lines.specs.Replies.{ending_text, group_text}
use Rattle.state_views.specs.Trees.{head_line, kind_line, taken_of}

-- ---- tasks

-- The task belongs to this group, and its phase has this name.
abbrev pub is_in_phase : ℕ → List ℕ → TaskLook → Bool
is_in_phase g word look = nat_eq look.group g && bytes_eq (phase_word look.phase) word

-- The number of such tasks in a state.
abbrev pub tasks_in : State → ℕ → List ℕ → ℕ
tasks_in p g word =
    count_below (λ n. option_map_or (is_in_phase g word) (task_look_of p n) false)
    (length p.work.tasks)

-- The number of tasks of a group in each phase.
abbrev pub phases_of : State → ℕ → Phases
phases_of p g = record {
  held = tasks_in p g (codes "held");
  ready = tasks_in p g (codes "ready");
  running = tasks_in p g (codes "running");
  success = tasks_in p g (codes "success");
  error = tasks_in p g (codes "error");
  interrupted = tasks_in p g (codes "interrupted");
}

-- ---- lines

abbrev pub phases_text : Phases → List ℕ
phases_text phases =
    codes "; tasks held " ++ decimal phases.held
    ++ (codes ", ready " ++ decimal phases.ready)
    ++ (codes ", running " ++ decimal phases.running)
    ++ (codes ", success " ++ decimal phases.success)
    ++ (codes ", error " ++ decimal phases.error)
    ++ (codes ", interrupted " ++ decimal phases.interrupted)

-- A deadline in seconds, followed by its date and time, or `none`.
abbrev pub dated_text : Option ℕ → List ℕ
dated_text None = codes "none"
dated_text (Some moment) = decimal moment ++ (codes " " ++ moment_text moment)

-- The reply to a question about a scope, with the date and time after its deadline.
abbrev pub state_text : Look → List ℕ
state_text look = option_map_or
    (λ ending. codes "done; deadline " ++ dated_text look.deadline
    ++ ending_text ending.0 ending.1)
    look.done
    (codes "live; deadline " ++ dated_text look.deadline)

-- A group as in a whole state, followed by the number of its tasks in each phase.
abbrev pub counted_group : ℕ → GroupLook → Phases → List ℕ
counted_group g group phases =
    named (codes "group") g group.name ++ group_text group ++ phases_text phases

-- The line of a group: the group, and then its scope.
abbrev pub group_summary : ℕ → GroupLook → Phases → Look → List ℕ
group_summary g group phases scope =
    counted_group g group phases ++ (codes "; scope " ++ decimal group.scope) ++ codes " "
    ++ state_text scope ++ 10 ∷ []

-- A scope has a line of its own if it is done and doesn't belong to a group. (The line of a group
-- shows the group's scope.)
abbrev pub is_summed : Kind → Look → Bool
is_summed kind.Group look = false
is_summed kind look = is_some look.done

-- Its line is the one that it has in a tree.
abbrev pub scope_summary : ℕ → Kind → Look → List ℕ
scope_summary s kind look = if is_summed kind look then kind_line s kind look else []

-- ---- a state

abbrev pub group_summed : State → ℕ → List ℕ
group_summed p g = option_map_or
    (λ group. option_map_or (group_summary g group (phases_of p g)) (look_of p group.scope) [])
    (group_look_of p g) []

abbrev pub scope_summed : State → ℕ → List ℕ
scope_summed p s = option_map_or
    (λ row. option_map_or (scope_summary s row.kind) (look_of p s) [])
    (slice_get p.tree.scopes s) []

-- The lines of the groups and then those of the scopes, each in the order of their numbers.
abbrev pub lines_summed : State → List ℕ
lines_summed p =
    lines_below (group_summed p) (length p.work.groups)
    ++ lines_below (scope_summed p) (length p.tree.scopes)

-- The whole summary. Its first line is that of a tree.
abbrev pub summary_text : State → List ℕ
summary_text p =
    head_line p.count p.tree.clock p.tree.layout (taken_of p) ++ lines_summed p
