-- A task that was started isn't started again.
use Rattle.run_model.proofs.Common.{◌≡◌, ℕ, true, false, List, [], ◌∷◌, ◌++◌, Option, Some, None}
use Rattle.run_model.proofs.Common.{slice_get, refl, sym, ap, subst, ◌∙◌, ◌&&◌, option_map}
use Rattle.run_model.proofs.Common.{option_map_or, and_parts, both_ways, false_from_ne_true}
use Rattle.run_model.proofs.Common.{not-false, same_Some, slice_get_within, slice_get-map}
use Rattle.run_model.proofs.Common.{cond_some, option_and_then_some, allowed, after, refusals, run}
use Rattle.run_model.proofs.Common.{Event, at_row, State, WorkState, step, is_admitted, is_fresh}
use Rattle.run_model.proofs.Common.{with_stage, stage_of, retried_row, each_fails}
use Rattle.run_model.proofs.Common.{slice_get-push_left, slice_get-at_row_same}
use Rattle.run_model.specs.declared.tasks.Outcome.{Outcome}
use Rattle.run_model.specs.declared.tasks.Outcome.TheVariants as outcome
use Rattle.run_model.specs.declared.tasks.Stage.{Stage}
use Rattle.run_model.specs.declared.tasks.Stage.TheVariants as stage
use Rattle.run_model.specs.declared.tasks.Task.{Task}
use Rattle.run_model.specs.Event as event
use Rattle.model_laws.specs.Restarts.{stage_restarted, task_restarted}
use Rattle.model_laws.proofs.Interrupts.{restarted}
use Rattle.model_laws.proofs.Shapes.{alike_at}
use Rattle.model_laws.proofs.Tests.{first_is_ready, passing}

-- There is a task of this number, and it was started.
abbrev pub Begun : List Task → ℕ → Type 0
Begun rows n = (row : Task) × (slice_get rows n ≡ Some row) × (is_fresh row.stage ≡ false)

abbrev StaysBegun : Task → Task → Type 0
StaysBegun x y = is_fresh x.stage ≡ false → is_fresh y.stage ≡ false

pushed : (rows : List Task) (new : Task) (n : ℕ) → Begun rows n → Begun (rows ++ new ∷ []) n
pushed rows new n has = (
  has.0,
  slice_get-push_left rows new n (slice_get_within rows n has.0 has.1) ∙ has.1,
  has.2,
)

staged : (stage : Stage) → is_fresh stage ≡ false → (k : ℕ) (rows : List Task) (n : ℕ)
    → Begun rows n → Begun (at_row (with_stage stage) k rows) n
staged stage begun k rows n has =
    let new = (alike_at StaysBegun (with_stage stage) k rows (λ x is. is)
    (λ x at is. begun)).forth n has.0 has.1 in (new.0, new.1, new.2 has.2)

ended_stage : (how : Outcome) → is_fresh (stage_of how) ≡ false
ended_stage outcome.Success = refl
ended_stage (outcome.Failure text) = refl

restarted_stage : (s : Stage) → is_fresh s ≡ false → is_fresh (stage_restarted s) ≡ false
restarted_stage stage.Fresh is = is
restarted_stage stage.Running is = refl
restarted_stage stage.Success is = is
restarted_stage (stage.Failure text) is = is
restarted_stage stage.Interrupted is = is

once_more : (w : WorkState) (k n : ℕ) (o : Option Task) → Begun w.tasks n
    → Begun (option_map_or (λ row. record w { tasks = w.tasks ++ retried_row k row ∷ [] }) o
    w).tasks n
once_more w k n None has = has
once_more w k n (Some old) has = pushed w.tasks (retried_row k old) n has

-- A task that was started still is after any event.
pub begun_by : (p : State) (event : Event) (n : ℕ) → Begun p.work.tasks n
    → Begun (step p event).work.tasks n
begun_by p (event.Derive name parent kind) n has = has
begun_by p (event.Cancel s cause) n has = has
begun_by p (event.Advance moment) n has = has
begun_by p (event.Group name parent) n has = has
begun_by p (event.Bare name s) n has = has
begun_by p (event.SetLimit g limit) n has = has
begun_by p (event.Go g job argument) n has = pushed p.work.tasks _ n has
begun_by p (event.TryGo g job argument) n has = pushed p.work.tasks _ n has
begun_by p (event.Retry k) n has = once_more p.work k n (slice_get p.work.tasks k) has
begun_by p (event.Start k) n has = staged stage.Running refl k p.work.tasks n has
begun_by p (event.Finish k how) n has =
    staged (stage_of how) (ended_stage how) k p.work.tasks n has
begun_by p (event.Wait g) n has = has
begun_by p event.Restart n has = (
  task_restarted has.0,
  ap (λ rows. slice_get rows n) (restarted p).tasks
      ∙ slice_get-map task_restarted p.work.tasks n
      ∙ ap (option_map task_restarted) has.1,
  restarted_stage has.0.stage has.2,
)

-- The same after any run.
pub still : (events : List Event) (p q : State) (n : ℕ) → Begun p.work.tasks n
    → run p events ≡ Some q → Begun q.work.tasks n
still [] p q n has led = subst (λ r. Begun r.work.tasks n) (same_Some p q led) has
still (event ∷ events) p q n has led =
    option_and_then_some (λ next. run next events) (after p event) q led
    (λ next first rest.
    let parts = cond_some (allowed p event) (step p event) next first in
    still events next q n (subst (λ r. Begun r.work.tasks n) parts.1 (begun_by p event n has))
    rest)

-- A task that may be started is there, and wasn't.
startable : (p : State) (n : ℕ) → allowed p (event.Start n) ≡ true
    → (row : Task) × (slice_get p.work.tasks n ≡ Some row) × (is_fresh row.stage ≡ true)
startable p n may =
    let parts = each_fails (refusals p (event.Start n)) may in
    let ready = first_is_ready p.work n (not-false _ parts.0) in
    let row = passing (λ task. is_fresh task.stage && is_admitted p.work n task)
    (slice_get p.work.tasks n) ready in
    (row.0, row.1, (and_parts (is_fresh row.0.stage) (is_admitted p.work n row.0) row.2).0)

-- After its start, the task was started.
pub starts : (p : State) (n : ℕ) → allowed p (event.Start n) ≡ true
    → Begun (step p (event.Start n)).work.tasks n
starts p n may =
    let row = startable p n may in (
      with_stage stage.Running row.0,
      slice_get-at_row_same (with_stage stage.Running) n p.work.tasks
          ∙ ap (option_map (with_stage stage.Running)) row.1,
      refl,
    )

-- Such a task can't be started.
pub never_again : (q : State) (n : ℕ) → Begun q.work.tasks n → allowed q (event.Start n) ≡ false
never_again q n then =
    false_from_ne_true (allowed q (event.Start n))
    (λ again.
    let twice = startable q n again in
    both_ways (is_fresh then.0.stage)
    then.2
    (ap (λ r. is_fresh r.stage) (same_Some then.0 twice.0 (sym then.1 ∙ twice.1)) ∙ twice.2))

-- A task that was once started isn't started again.
pub started_once : (p q : State) (n : ℕ) (events : List Event) → allowed p (event.Start n) ≡ true
    → run (step p (event.Start n)) events ≡ Some q → allowed q (event.Start n) ≡ false
started_once p q n events may led =
    never_again q n (still events (step p (event.Start n)) q n (starts p n may) led)
