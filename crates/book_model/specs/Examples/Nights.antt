-- The examples: each is a short session in a newly opened store, step by step with its replies.
use Rattle.std.specs.Prelude.{◌≡◌, ℕ, zero, suc, List, [], ◌∷◌, ◌++◌, map, Option, Some, None}
use Rattle.std.specs.Prelude.{codes}
use Rattle.run_model.specs.declared.scopes.Reason.{Reason}
use Rattle.run_model.specs.declared.commands.Wish.TheVariants.{Cancel, Cause, Deadline, Timeout}
use Rattle.run_model.specs.declared.commands.Wish.TheVariants.{Value, Detached}
use Rattle.run_model.specs.declared.commands.Step.{Step}
use Rattle.run_model.specs.declared.answers.Reply.{Reply}
use Rattle.run_model.specs.declared.layouts.Layout.TheVariants.{Small}
use Rattle.run_model.specs.declared.refusals.Refusal.TheVariants as refusal
use Rattle.run_model.specs.declared.tasks.Phase.TheVariants as phase
use Rattle.run_model.specs.State.{State}
use Rattle.run_model.specs.Scopes.{reason_of, cause_of, deadline_of, value_of}
use Rattle.run_model.specs.Event.{Restart}
use Rattle.run_model.specs.Step.{step}
use Rattle.run_model.specs.Session.{Session, opened, session_after, replies}
use Rattle.book_model.specs.Examples.Calls.{derive, cancel, cancel_only, advance, group, bare}
use Rattle.book_model.specs.Examples.Calls.{set_limit, set_no_limit, go, try_go, wait, start}
use Rattle.book_model.specs.Examples.Calls.{finish, fail, scope_made, group_made, bare_made, done}
use Rattle.book_model.specs.Examples.Calls.{submitted, started, finished, waited, waited_with}
use Rattle.book_model.specs.Examples.Calls.{refused, started_late}

-- A session is a list of steps, each with the expected reply.
abbrev pub Night : Type 0
Night = List (Step × Reply)

abbrev pub steps_of : Night → List Step
steps_of night = map (λ line. line.0) night

-- A small store that was formatted and opened.
abbrev pub new_store : Session
new_store = opened Small

-- The steps have the expected replies.
abbrev pub IsAnswered : Night → Type 0
IsAnswered night = replies new_store (steps_of night) ≡ map (λ line. line.1) night

-- ---- questions about the state after a session

abbrev pub state_of : Night → State
state_of night = (session_after new_store (steps_of night)).state

abbrev pub reason_after : Night → ℕ → Option Reason
reason_after night s = reason_of (state_of night).tree.scopes s

abbrev pub cause_after : Night → ℕ → Option (List ℕ)
cause_after night s = cause_of (state_of night).tree.scopes s

abbrev pub deadline_after : Night → ℕ → Option ℕ
deadline_after night s = deadline_of (state_of night).tree.scopes s

abbrev pub value_after : Night → ℕ → List ℕ → Option (List ℕ)
value_after night s key = value_of (state_of night).tree.scopes s key

-- ---- scopes

-- The parent is canceled, and with it the child.
abbrev pub parent_cancelled : Night
parent_cancelled =
    (derive "a" "root" Cause, scope_made 1)
    ∷ (derive "b" "a" Cancel, scope_made 2)
    ∷ (cancel "a" "disk", done)
    ∷ []

-- The child is canceled first, and then its parent.
abbrev pub child_cancelled_first : Night
child_cancelled_first =
    (derive "p" "root" Cause, scope_made 1)
    ∷ (derive "c" "p" Cause, scope_made 2)
    ∷ (cancel "c" "a", done)
    ∷ (cancel "p" "b", done)
    ∷ []

-- A scope that is done is canceled again.
abbrev pub child_cancelled_again : Night
child_cancelled_again =
    child_cancelled_first ++ (cancel "c" "again", refused refusal.AlreadyDone) ∷ []

-- One advance passes two deadlines at the same moment.
abbrev pub equal_deadlines : Night
equal_deadlines =
    (derive "p" "root" (Deadline 100 (Some (codes "p"))), scope_made 1)
    ∷ (derive "c" "p" (Deadline 100 (Some (codes "c"))), scope_made 2)
    ∷ (advance 200, done)
    ∷ []

-- One advance passes the child's deadline, and then its parent's.
abbrev pub child_deadline_first : Night
child_deadline_first =
    (derive "p" "root" (Deadline 150 (Some (codes "p"))), scope_made 1)
    ∷ (derive "c" "p" (Deadline 100 (Some (codes "c"))), scope_made 2)
    ∷ (advance 200, done)
    ∷ []

-- A value, a cause below it, a detached scope below that, and a scope below the detached one.
abbrev pub detached_part : Night
detached_part =
    (derive "v" "root" (Value (codes "region") (codes "eu")), scope_made 1)
    ∷ (derive "x" "v" Cause, scope_made 2)
    ∷ (derive "d" "x" Detached, scope_made 3)
    ∷ (derive "k" "d" Cancel, scope_made 4)
    ∷ (cancel "x" "stop", done)
    ∷ []

-- A timeout of 0, a deadline at the clock, and an advance to the clock.
abbrev pub deadlines_at_the_clock : Night
deadlines_at_the_clock =
    (advance 1704074400, done)
    ∷ (derive "t" "root" (Timeout 0 None), scope_made 1)
    ∷ (derive "u" "root" (Deadline 1704074400 None), scope_made 2)
    ∷ (advance 1704074400, refused refusal.ClockNotForward)
    ∷ []

-- One second more than the greatest moment.
abbrev pub timeout_past_all_moments : Night
timeout_past_all_moments =
    (derive "v" "root" (Value (codes "k") (codes "x")), scope_made 1)
    ∷ (derive "t" "root" (Timeout 253000000001 None), refused refusal.MomentOutOfRange)
    ∷ []

-- A deadline passes on a scope that its parent's cancellation has ended.
abbrev pub deadline_of_a_done_scope : Night
deadline_of_a_done_scope =
    (derive "p" "root" Cause, scope_made 1)
    ∷ (derive "c" "p" (Deadline 50 (Some (codes "late"))), scope_made 2)
    ∷ (cancel "p" "stop", done)
    ∷ (advance 60, done)
    ∷ []

-- A canceled deadline, and a detached part with a deadline of its own.
abbrev pub deadlines_round_a_detached_scope : Night
deadlines_round_a_detached_scope =
    (derive "p" "root" (Deadline 100 (Some (codes "p"))), scope_made 1)
    ∷ (derive "c" "p" (Deadline 50 (Some (codes "c"))), scope_made 2)
    ∷ (derive "d" "c" Detached, scope_made 3)
    ∷ (derive "e" "d" (Deadline 70 (Some (codes "e"))), scope_made 4)
    ∷ (cancel_only "c", done)
    ∷ (advance 100, done)
    ∷ []

-- Three advances pass three nested deadlines, the child's own last.
abbrev pub nested_deadlines : Night
nested_deadlines =
    (derive "p" "root" (Deadline 30 (Some (codes "thirty"))), scope_made 1)
    ∷ (derive "c" "p" (Deadline 10 (Some (codes "ten"))), scope_made 2)
    ∷ (derive "d" "c" (Deadline 20 (Some (codes "twenty"))), scope_made 3)
    ∷ (advance 5, done)
    ∷ (advance 10, done)
    ∷ (advance 25, done)
    ∷ []

-- A scope is canceled above a value scope.
abbrev pub value_between : Night
value_between =
    (derive "p" "root" Cause, scope_made 1)
    ∷ (derive "v" "p" (Value (codes "k") (codes "x")), scope_made 2)
    ∷ (derive "c" "v" Cancel, scope_made 3)
    ∷ (cancel "p" "stop", done)
    ∷ []

-- Two values under one key, with a detached scope between them.
abbrev pub nested_values : Night
nested_values =
    (derive "v" "root" (Value (codes "k") (codes "far")), scope_made 1)
    ∷ (derive "d" "v" Detached, scope_made 2)
    ∷ (derive "w" "d" (Value (codes "k") (codes "near")), scope_made 3)
    ∷ (derive "x" "w" (Value (codes "j") (codes "other")), scope_made 4)
    ∷ (derive "z" "d" Cancel, scope_made 5)
    ∷ []

-- Calls that could be refused for two reasons or more.
abbrev pub orders_of_refusals : Night
orders_of_refusals =
    (derive "d" "root" (Deadline 10 None), scope_made 1)
    ∷ (cancel "d" "x", refused refusal.CauseNotTaken)
    ∷ (cancel "root" "x", refused refusal.NotCancellable)
    ∷ (cancel "nobody" "x", refused refusal.NoSuchScope)
    ∷ (advance 10, done)
    ∷ (cancel "d" "x", refused refusal.CauseNotTaken)
    ∷ (cancel_only "d", refused refusal.AlreadyDone)
    ∷ (derive "d" "nobody" (Timeout 999999999999 None), refused refusal.NoSuchScope)
    ∷ (derive "d" "root" (Timeout 999999999999 None), refused refusal.NameTaken)
    ∷ (derive "e" "root" (Timeout 252999999990 None), scope_made 2)
    ∷ (derive "f" "root" (Timeout 252999999991 None), refused refusal.MomentOutOfRange)
    ∷ (group "root" "root", refused refusal.NameTaken)
    ∷ (bare "root" "root", bare_made 0)
    ∷ (group "root" "nobody", refused refusal.NoSuchScope)
    ∷ []

-- ---- groups

-- A limit of two, and three tasks.
abbrev pub limited_group : Night
limited_group =
    (group "g" "root", group_made 0 1)
    ∷ (set_limit "g" 2, done)
    ∷ (go "g" "copy" "a", submitted 0 phase.Ready)
    ∷ (go "g" "copy" "b", submitted 1 phase.Ready)
    ∷ (go "g" "copy" "c", submitted 2 phase.Held)
    ∷ (try_go "g" "copy" "d", refused refusal.AtLimit)
    ∷ (start, started 7 0 "copy" "a")
    ∷ (finish 0, finished 8)
    ∷ (wait "g", refused (refusal.Unfinished 2))
    ∷ (set_limit "g" 3, refused refusal.LimitWhileActive)
    ∷ []

-- A limit of zero admits no task.
abbrev pub limit_of_zero : Night
limit_of_zero =
    (group "g" "root", group_made 0 1)
    ∷ (set_limit "g" 0, done)
    ∷ (go "g" "copy" "a", submitted 0 phase.Held)
    ∷ (start, refused refusal.NothingReady)
    ∷ (try_go "g" "copy" "b", refused refusal.AtLimit)
    ∷ (wait "g", refused (refusal.Unfinished 1))
    ∷ []

-- The second task fails first, and the group is waited for twice.
abbrev pub first_error : Night
first_error =
    (group "g" "root", group_made 0 1)
    ∷ (go "g" "copy" "a", submitted 0 phase.Ready)
    ∷ (go "g" "copy" "b", submitted 1 phase.Ready)
    ∷ (start, started 5 0 "copy" "a")
    ∷ (start, started 6 1 "copy" "b")
    ∷ (fail 1 "x", finished 7)
    ∷ (fail 0 "y", finished 8)
    ∷ (wait "g", waited_with "x")
    ∷ (wait "g", waited_with "x")
    ∷ (go "g" "copy" "c", refused refusal.Waited)
    ∷ []

-- A group and a bare group, both waited for.
abbrev pub bare_group : Night
bare_group =
    (group "g" "root", group_made 0 1)
    ∷ (bare "h" "root", bare_made 1)
    ∷ (wait "g", waited)
    ∷ (wait "h", waited)
    ∷ []

-- A name that is taken; a scope, a group and a task that don't exist; and no ready task.
abbrev pub refused_calls : Night
refused_calls =
    (group "g" "root", group_made 0 1)
    ∷ (bare "g" "root", refused refusal.NameTaken)
    ∷ (group "h" "no", refused refusal.NoSuchScope)
    ∷ (go "x" "copy" "a", refused refusal.NoSuchGroup)
    ∷ (try_go "x" "copy" "a", refused refusal.NoSuchGroup)
    ∷ (set_limit "x" 1, refused refusal.NoSuchGroup)
    ∷ (wait "x", refused refusal.NoSuchGroup)
    ∷ (set_limit "g" 64, done)
    ∷ (finish 0, refused refusal.NoSuchTask)
    ∷ (start, refused refusal.NothingReady)
    ∷ []

-- A step with a scope that doesn't exist and a name that is taken; tasks that aren't running; and a
-- bare group and a scope with the same name.
abbrev pub two_reasons : Night
two_reasons =
    (group "g" "root", group_made 0 1)
    ∷ (bare "g" "no", refused refusal.NoSuchScope)
    ∷ (finish 0, refused refusal.NoSuchTask)
    ∷ (go "g" "copy" "a", submitted 0 phase.Ready)
    ∷ (finish 0, refused refusal.NotRunning)
    ∷ (start, started 4 0 "copy" "a")
    ∷ (finish 0, finished 5)
    ∷ (finish 0, refused refusal.NotRunning)
    ∷ (bare "h" "root", bare_made 1)
    ∷ (derive "h" "root" Cause, scope_made 2)
    ∷ []

-- Two groups, each with tasks and a limit of its own.
abbrev pub two_groups : Night
two_groups =
    (group "a" "root", group_made 0 1)
    ∷ (group "b" "root", group_made 1 2)
    ∷ (set_limit "b" 1, done)
    ∷ (go "a" "copy" "x", submitted 0 phase.Ready)
    ∷ (go "a" "copy" "y", submitted 1 phase.Ready)
    ∷ (try_go "b" "copy" "z", submitted 2 phase.Ready)
    ∷ (try_go "b" "copy" "z", refused refusal.AtLimit)
    ∷ (wait "b", refused (refusal.Unfinished 1))
    ∷ (wait "a", refused (refusal.Unfinished 2))
    ∷ []

-- A limit is removed again.
abbrev pub limit_taken_away : Night
limit_taken_away =
    (group "g" "root", group_made 0 1)
    ∷ (set_limit "g" 1, done)
    ∷ (set_no_limit "g", done)
    ∷ (go "g" "copy" "a", submitted 0 phase.Ready)
    ∷ (go "g" "copy" "b", submitted 1 phase.Ready)
    ∷ []

-- Groups, tasks and a scope below a scope that is done. The scope's deadline had passed before.
abbrev pub below_a_done_scope : Night
below_a_done_scope =
    (derive "p" "root" Cause, scope_made 1)
    ∷ (advance 60, done)
    ∷ (cancel "p" "stop", done)
    ∷ (group "g" "p", group_made 0 2)
    ∷ (bare "h" "p", bare_made 1)
    ∷ (go "g" "copy" "a", submitted 0 phase.Ready)
    ∷ (try_go "h" "copy" "b", submitted 1 phase.Ready)
    ∷ (derive "c" "g" (Deadline 50 (Some (codes "late"))), scope_made 3)
    ∷ (start, started_late 10 0 "copy" "a")
    ∷ []

-- Two jobs, one of which fails.
abbrev pub two_jobs : Night
two_jobs =
    (group "g" "root", group_made 0 1)
    ∷ (go "g" "spin" "1", submitted 0 phase.Ready)
    ∷ (go "g" "copy" "a", submitted 1 phase.Ready)
    ∷ (go "g" "spin" "2", submitted 2 phase.Ready)
    ∷ (start, started 6 0 "spin" "1")
    ∷ (start, started 7 1 "copy" "a")
    ∷ (fail 0 "x", finished 8)
    ∷ (finish 1, finished 9)
    ∷ []

-- One of two tasks is running when the program crashes.
abbrev pub crashed_night : Night
crashed_night =
    (group "g" "root", group_made 0 1)
    ∷ (set_limit "g" 1, done)
    ∷ (go "g" "copy" "a", submitted 0 phase.Ready)
    ∷ (go "g" "copy" "b", submitted 1 phase.Held)
    ∷ (start, started 6 0 "copy" "a")
    ∷ []

-- A task fails in a group below a scope that is done.
abbrev pub error_below_a_done_scope : Night
error_below_a_done_scope =
    (derive "p" "root" Cause, scope_made 1)
    ∷ (group "g" "p", group_made 0 2)
    ∷ (go "g" "copy" "a", submitted 0 phase.Ready)
    ∷ (cancel "p" "stop", done)
    ∷ (start, started_late 6 0 "copy" "a")
    ∷ (fail 0 "bad", finished 7)
    ∷ []

-- A bare group whose tasks belong to another group's scope.
abbrev pub bare_group_in_a_groups_scope : Night
bare_group_in_a_groups_scope =
    (group "g" "root", group_made 0 1)
    ∷ (bare "h" "g", bare_made 1)
    ∷ (go "h" "copy" "a", submitted 0 phase.Ready)
    ∷ (go "h" "copy" "b", submitted 1 phase.Ready)
    ∷ (start, started 6 0 "copy" "a")
    ∷ (fail 0 "bad", finished 7)
    ∷ (wait "h", refused (refusal.Unfinished 1))
    ∷ (wait "g", waited)
    ∷ (start, started_late 9 1 "copy" "b")
    ∷ (finish 1, finished 10)
    ∷ (wait "h", waited_with "bad")
    ∷ (go "h" "copy" "c", refused refusal.Waited)
    ∷ (set_limit "h" 3, refused refusal.Waited)
    ∷ []

-- A limit is set again after all tasks have finished.
abbrev pub limit_set_again : Night
limit_set_again =
    (group "g" "root", group_made 0 1)
    ∷ (set_limit "g" 1, done)
    ∷ (go "g" "copy" "a", submitted 0 phase.Ready)
    ∷ (go "g" "copy" "b", submitted 1 phase.Held)
    ∷ (set_limit "g" 2, refused refusal.LimitWhileActive)
    ∷ (start, started 6 0 "copy" "a")
    ∷ (start, refused refusal.NothingReady)
    ∷ (finish 0, finished 7)
    ∷ (set_limit "g" 2, refused refusal.LimitWhileActive)
    ∷ (start, started 8 1 "copy" "b")
    ∷ (finish 1, finished 9)
    ∷ (set_limit "g" 0, done)
    ∷ (try_go "g" "copy" "c", refused refusal.AtLimit)
    ∷ (go "g" "copy" "c", submitted 2 phase.Held)
    ∷ []

-- Two groups, one below the other, each with a running task.
abbrev pub nested_groups : Night
nested_groups =
    (group "a" "root", group_made 0 1)
    ∷ (group "b" "a", group_made 1 2)
    ∷ (go "b" "copy" "x", submitted 0 phase.Ready)
    ∷ (go "a" "copy" "y", submitted 1 phase.Ready)
    ∷ (start, started 6 0 "copy" "x")
    ∷ (start, started 7 1 "copy" "y")
    ∷ []

-- The state of a store after this many more openings.
abbrev pub reopened : ℕ → Night → State
reopened zero night = state_of night
reopened (suc n) night = step (reopened n night) Restart
