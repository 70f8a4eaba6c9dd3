-- A task that was retried isn't retried again.
use Rattle.run_model.proofs.Common.{◌≡◌, ℕ, true, false, List, [], ◌∷◌, ◌++◌, length, Option, Some}
use Rattle.run_model.proofs.Common.{None, slice_get, refl, ap, subst, ◌∙◌, option_map}
use Rattle.run_model.proofs.Common.{option_map_or, both_ways, false_from_ne_true, not-false}
use Rattle.run_model.proofs.Common.{same_Some, slice_get_within, slice_get-map, cond_some}
use Rattle.run_model.proofs.Common.{option_and_then_some, allowed, after, refusals, run, Event}
use Rattle.run_model.proofs.Common.{at_row, State, WorkState, step, is_interrupted, is_retried}
use Rattle.run_model.proofs.Common.{with_stage, stage_of, retried_row, each_fails}
use Rattle.run_model.proofs.Common.{slice_get-push_left, slice_get-push_last, HasRow}
use Rattle.run_model.specs.declared.tasks.Stage.{Stage}
use Rattle.run_model.specs.declared.tasks.Stage.TheVariants as stage
use Rattle.run_model.specs.declared.tasks.Task.{Task}
use Rattle.run_model.specs.Event as event
use Rattle.model_laws.specs.Restarts.{task_restarted}
use Rattle.model_laws.specs.Retries.{IsTriedAgain, KeepsLink}
use Rattle.model_laws.proofs.Interrupts.{restarted}
use Rattle.model_laws.proofs.Links.{retried_by}
use Rattle.model_laws.proofs.Shapes.{alike_at}
use Rattle.model_laws.proofs.TaskEvents.{retry_found}
use Rattle.model_laws.proofs.Tests.{passing}

pub tried_again : (p : State) (n : ℕ) (row : Task) → HasRow p.work.tasks n row
    → IsTriedAgain p n row (step p (event.Retry n))
tried_again p n row found =
    let is = retry_found p.work n row found in
    record {
      counted = refl;
      tree = refl;
      groups = ap (λ w. w.groups) is;
      layout = ap (λ w. w.layout) is;
      tasks = ap (λ w. w.tasks) is;
    }

-- The row of this number is a retry of what this row is a retry of.
abbrev Kept : List Task → ℕ → Task → Type 0
Kept rows n row = (new : Task) × (slice_get rows n ≡ Some new) × (new.retry_of ≡ row.retry_of)

pushed : (rows : List Task) (new : Task) (n : ℕ) (row : Task) → slice_get rows n ≡ Some row
    → Kept (rows ++ new ∷ []) n row
pushed rows new n row found =
    (row, slice_get-push_left rows new n (slice_get_within rows n row found) ∙ found, refl)

staged : (stage : Stage) (k : ℕ) (rows : List Task) (n : ℕ) (row : Task)
    → slice_get rows n ≡ Some row → Kept (at_row (with_stage stage) k rows) n row
staged stage k rows n row found =
    (alike_at (λ x y. y.retry_of ≡ x.retry_of) (with_stage stage) k rows (λ x. refl)
    (λ x at. refl)).forth n row found

once_more : (w : WorkState) (k n : ℕ) (row : Task) (o : Option Task) → HasRow w.tasks n row
    → Kept (option_map_or (λ row. record w { tasks = w.tasks ++ retried_row k row ∷ [] }) o
    w).tasks
    n row
once_more w k n row None found = (row, found, refl)
once_more w k n row (Some old) found = pushed w.tasks (retried_row k old) n row found

kept_by : (p : State) (event : Event) (n : ℕ) (row : Task) → HasRow p.work.tasks n row
    → KeepsLink (step p event) n row
kept_by p (event.Derive name parent kind) n row found = (row, found, refl)
kept_by p (event.Cancel s cause) n row found = (row, found, refl)
kept_by p (event.Advance moment) n row found = (row, found, refl)
kept_by p (event.Group name parent) n row found = (row, found, refl)
kept_by p (event.Bare name s) n row found = (row, found, refl)
kept_by p (event.SetLimit g limit) n row found = (row, found, refl)
kept_by p (event.Go g job argument) n row found = pushed p.work.tasks _ n row found
kept_by p (event.TryGo g job argument) n row found = pushed p.work.tasks _ n row found
kept_by p (event.Retry k) n row found = once_more p.work k n row (slice_get p.work.tasks k) found
kept_by p (event.Start k) n row found = staged stage.Running k p.work.tasks n row found
kept_by p (event.Finish k outcome) n row found =
    staged (stage_of outcome) k p.work.tasks n row found
kept_by p (event.Wait g) n row found = (row, found, refl)
kept_by p event.Restart n row found = (
  task_restarted row,
  ap (λ rows. slice_get rows n) (restarted p).tasks
      ∙ slice_get-map task_restarted p.work.tasks n
      ∙ ap (option_map task_restarted) found,
  refl,
)

pub link_after : (p q : State) (event : Event) (n : ℕ) (row : Task) → after p event ≡ Some q
    → HasRow p.work.tasks n row → KeepsLink q n row
link_after p q event n row led found =
    let parts = cond_some (allowed p event) (step p event) q led in
    subst (λ r. KeepsLink r n row) parts.1 (kept_by p event n row found)

-- Some task is a retry of this one.
abbrev Retried : State → ℕ → Type 0
Retried p n = (k : ℕ) × (row : Task) × HasRow p.work.tasks k row × (row.retry_of ≡ Some n)

still : (events : List Event) (p q : State) (n : ℕ) → Retried p n → run p events ≡ Some q
    → Retried q n
still [] p q n has led = subst (λ r. Retried r n) (same_Some p q led) has
still (event ∷ events) p q n has led =
    option_and_then_some (λ next. run next events) (after p event) q led
    (λ next first rest.
    let new = link_after p next event has.0 has.1 first has.2 in
    still events next q n (has.0, new.0, new.1, new.2 ∙ has.3) rest)

pub retried_once : (p q : State) (n : ℕ) (events : List Event) → allowed p (event.Retry n) ≡ true
    → run (step p (event.Retry n)) events ≡ Some q → allowed q (event.Retry n) ≡ false
retried_once p q n events may led =
    let parts = each_fails (refusals p (event.Retry n)) may in
    let row = passing (λ task. is_interrupted task.stage) (slice_get p.work.tasks n)
    (not-false _ parts.1.0) in
    let now : Retried (step p (event.Retry n)) n = (
      length p.work.tasks,
      retried_row n row.0,
      ap (λ rows. slice_get rows (length p.work.tasks)) (tried_again p n row.0 row.1).tasks
          ∙ slice_get-push_last p.work.tasks (retried_row n row.0),
      refl,
    ) in
    let then = still events (step p (event.Retry n)) q n now led in
    false_from_ne_true (allowed q (event.Retry n))
    (λ again.
    both_ways (is_retried q.work n) (each_fails (refusals q (event.Retry n)) again).1.1.0
    (retried_by q.work then.0 n then.1 then.2 then.3))
