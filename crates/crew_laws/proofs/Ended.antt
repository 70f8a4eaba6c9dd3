-- A task that has ended isn't started or finished again.
use Rattle.run_model.proofs.Common.{◌≡◌, ℕ, true, false, List, [], ◌∷◌, ◌++◌, Option, Some, None}
use Rattle.run_model.proofs.Common.{slice_get, refl, sym, ap, subst, ◌∙◌, option_map}
use Rattle.run_model.proofs.Common.{option_map_or, both_ways, is_unfinished}
use Rattle.run_model.proofs.Common.{not-false, same_Some, slice_get_within, slice_get-map}
use Rattle.run_model.proofs.Common.{allowed, refusals, run}
use Rattle.run_model.proofs.Common.{Event, at_row, State, WorkState, step, is_fresh}
use Rattle.run_model.proofs.Common.{with_stage, stage_of, retried_row, each_fails, is_running}
use Rattle.run_model.proofs.Common.{slice_get-push_left, slice_get-at_row_same}
use Rattle.run_model.specs.declared.tasks.Outcome.{Outcome}
use Rattle.run_model.specs.declared.tasks.Outcome.TheVariants as outcome
use Rattle.run_model.specs.declared.tasks.Stage.{Stage}
use Rattle.run_model.specs.declared.tasks.Stage.TheVariants as stage
use Rattle.run_model.specs.declared.tasks.Task.{Task}
use Rattle.run_model.specs.Event as event
use Rattle.model_laws.specs.Restarts.{stage_restarted, task_restarted}
use Rattle.model_laws.proofs.Admission.{running_unfinished}
use Rattle.model_laws.proofs.Interrupts.{restarted}
use Rattle.model_laws.proofs.RunLemmas.{after_allowed, after_step, run_keeps}
use Rattle.model_laws.proofs.Shapes.{alike_at}
use Rattle.model_laws.proofs.StartedOnce.{never_again}
use Rattle.model_laws.proofs.Tests.{passing}
use Rattle.crew_laws.specs.Audits.{HasEnded}

abbrev Ended : List Task → ℕ → Type 0
Ended rows n = (row : Task) × (slice_get rows n ≡ Some row) × (is_unfinished row.stage ≡ false)

abbrev StaysEnded : Task → Task → Type 0
StaysEnded x y = is_unfinished x.stage ≡ false → is_unfinished y.stage ≡ false

pushed : (rows : List Task) (new : Task) (n : ℕ) → Ended rows n → Ended (rows ++ new ∷ []) n
pushed rows new n has = (
  has.0,
  slice_get-push_left rows new n (slice_get_within rows n has.0 has.1) ∙ has.1,
  has.2,
)

staged : (stage : Stage) (k : ℕ) (rows : List Task)
    → ((x : Task) → slice_get rows k ≡ Some x → StaysEnded x (with_stage stage x)) → (n : ℕ)
    → Ended rows n → Ended (at_row (with_stage stage) k rows) n
staged stage k rows changed n has =
    let new = (alike_at StaysEnded (with_stage stage) k rows (λ x is. is) changed).forth n has.0
    has.1 in (new.0, new.1, new.2 has.2)

ended_stage : (how : Outcome) → is_unfinished (stage_of how) ≡ false
ended_stage outcome.Success = refl
ended_stage (outcome.Failure text) = refl

restarted_stage : (s : Stage) → is_unfinished s ≡ false → is_unfinished (stage_restarted s) ≡ false
restarted_stage stage.Fresh is = is
restarted_stage stage.Running is = refl
restarted_stage stage.Success is = is
restarted_stage (stage.Failure text) is = is
restarted_stage stage.Interrupted is = is

ended_begun : (s : Stage) → is_unfinished s ≡ false → is_fresh s ≡ false
ended_begun stage.Fresh is = is
ended_begun stage.Running is = refl
ended_begun stage.Success is = refl
ended_begun (stage.Failure text) is = refl
ended_begun stage.Interrupted is = refl

once_more : (w : WorkState) (k n : ℕ) (o : Option Task) → Ended w.tasks n
    → Ended (option_map_or (λ row. record w { tasks = w.tasks ++ retried_row k row ∷ [] }) o
    w).tasks n
once_more w k n None has = has
once_more w k n (Some old) has = pushed w.tasks (retried_row k old) n has

-- A task that may be finished is running.
finishable : (p : State) (n : ℕ) (how : Outcome) → allowed p (event.Finish n how) ≡ true
    → (row : Task) × (slice_get p.work.tasks n ≡ Some row) × (is_running row.stage ≡ true)
finishable p n how may =
    passing (λ task. is_running task.stage) (slice_get p.work.tasks n)
    (not-false _ (each_fails (refusals p (event.Finish n how)) may).1.0)

-- A task that has ended still has after any event.
pub ended_by : (p : State) (event : Event) (n : ℕ) → allowed p event ≡ true
    → Ended p.work.tasks n → Ended (step p event).work.tasks n
ended_by p (event.Derive name parent kind) n may has = has
ended_by p (event.Cancel s cause) n may has = has
ended_by p (event.Advance moment) n may has = has
ended_by p (event.Group name parent) n may has = has
ended_by p (event.Bare name s) n may has = has
ended_by p (event.SetLimit g limit) n may has = has
ended_by p (event.Go g job argument) n may has = pushed p.work.tasks _ n has
ended_by p (event.TryGo g job argument) n may has = pushed p.work.tasks _ n has
ended_by p (event.Retry k) n may has = once_more p.work k n (slice_get p.work.tasks k) has
ended_by p (event.Start k) n may has =
    staged stage.Running k p.work.tasks
    (λ x at is. absurd (both_ways (allowed p (event.Start k))
    (never_again p k (x, at, ended_begun x.stage is)) may)) n has
ended_by p (event.Finish k how) n may has =
    staged (stage_of how) k p.work.tasks (λ x at is. ended_stage how) n has
ended_by p (event.Wait g) n may has = has
ended_by p event.Restart n may has = (
  task_restarted has.0,
  ap (λ rows. slice_get rows n) (restarted p).tasks
      ∙ slice_get-map task_restarted p.work.tasks n
      ∙ ap (option_map task_restarted) has.1,
  restarted_stage has.0.stage has.2,
)

-- The same after any run.
pub stays_ended : (p q : State) (n : ℕ) (events : List Event) → HasEnded p n
    → run p events ≡ Some q → HasEnded q n
stays_ended p q n events has led =
    run_keeps (λ r. HasEnded r n)
    (λ r next event was came.
    subst (λ s. HasEnded s n) (after_step r next event came)
    (ended_by r event n (after_allowed r next event came) was)) p q events has led

-- A task has ended after its finish.
pub ended_then : (p : State) (n : ℕ) (how : Outcome) → allowed p (event.Finish n how) ≡ true
    → HasEnded (step p (event.Finish n how)) n
ended_then p n how may =
    let row = finishable p n how may in (
      with_stage (stage_of how) row.0,
      slice_get-at_row_same (with_stage (stage_of how)) n p.work.tasks
          ∙ ap (option_map (with_stage (stage_of how))) row.1,
      ended_stage how,
    )

-- A task that has ended isn't finished.
pub never_finished : (p : State) (n : ℕ) (how : Outcome) → HasEnded p n
    → allowed p (event.Finish n how) ≡ true → ⊥
never_finished p n how has may =
    let row = finishable p n how may in
    both_ways (is_unfinished has.0.stage) has.2
    (ap (λ (r : Task). is_unfinished r.stage) (same_Some has.0 row.0 (sym has.1 ∙ row.1))
    ∙ running_unfinished row.0.stage row.2)
