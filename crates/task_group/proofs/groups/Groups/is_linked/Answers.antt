use Rattle.run_model.proofs.Common.{◌≡◌, ℕ, Bool, false, true, not, ◌&&◌, List, Some, slice_get}
use Rattle.run_model.proofs.Common.{refl, sym, ap, ◌∙◌, list_any, option_map_or, is_retry_of}
use Rattle.run_model.proofs.Common.{slice_get_within}
use Rattle.run_model.specs.declared.tasks.Task.{Task}
use Rattle.row_view.specs.WorkRows.{can_retry, is_linked}
use Rattle.task_group.proofs.groups.Groups.is_linked.Goals as goal

-- The link of a task that is a retry of task m.
link_is : (tasks : List Task) (row : Task) (m : ℕ) (fits : Bool) → row.retry_of ≡ Some m
    → fits ≡ option_map_or (can_retry row) (slice_get tasks m) false
    → (fits && not (list_any (is_retry_of m) tasks)) ≡ is_linked tasks row
link_is tasks row m fits is old = rw (is, old) refl

pub returns-in_default : goal.returns-in_default
returns-in_default g c = rw c.in_default.is refl

pub returns-in-None : goal.returns-in-None
returns-in-None g c =
    link_is c.args.self.now.tasks c.args.row.now c.in-Some.m false c.in-Some.is
    (rw (← c.in-None.ensures) refl)

pub is_retried-requires : goal.is_retried-requires
is_retried-requires g c =
    slice_get_within c.args.self.now.tasks c.in-Some.m c.in-Some-task_row.old.now
    (sym c.in-Some-task_row.ensures)

pub returns-then-can_retry : goal.returns-then-can_retry
returns-then-can_retry g c =
    ap not c.is_retried.ensures
    ∙ link_is c.args.self.now.tasks c.args.row.now c.in-Some.m true c.in-Some.is
    (sym c.if-can_retry.true ∙ c.can_retry.ensures ∙ rw (← c.in-Some-task_row.ensures) refl)

pub returns-else-can_retry : goal.returns-else-can_retry
returns-else-can_retry g c =
    c.if-can_retry.false
    ∙ link_is c.args.self.now.tasks c.args.row.now c.in-Some.m false c.in-Some.is
    (sym c.if-can_retry.false ∙ c.can_retry.ensures ∙ rw (← c.in-Some-task_row.ensures) refl)
