-- If no task is left running, as many tasks were started in a night as finished.
use Rattle.run_model.proofs.Common.{◌≡◌, ◌∙◌, ◌+◌, ◌&&◌, ℕ, zero, suc, Bool, true, false, List, []}
use Rattle.run_model.proofs.Common.{◌∷◌, Option, Some, allowed, and_parts, ap, arith, at_row}
use Rattle.run_model.proofs.Common.{both_ways, cond, each_fails, is_admitted, is_fresh}
use Rattle.run_model.proofs.Common.{is_running, list_all, map, none-some, not-false, option_map}
use Rattle.run_model.proofs.Common.{option_map_or, option_and_then_some, refl, refusals, run}
use Rattle.run_model.proofs.Common.{running_count, same_Some, slice_get, stage_of, step}
use Rattle.run_model.proofs.Common.{sum_by-cons, sym, with_stage, after, Event, State, WorkState}
use Rattle.run_model.specs.declared.tasks.Outcome.{Outcome}
use Rattle.run_model.specs.declared.tasks.Outcome.TheVariants as outcome
use Rattle.run_model.specs.declared.tasks.Stage.{Stage}
use Rattle.run_model.specs.declared.tasks.Stage.TheVariants as stage
use Rattle.run_model.specs.declared.tasks.Task.{Task}
use Rattle.run_model.specs.Event as event
use Rattle.run_model.specs.Tasks.{phase_by}
use Rattle.model_laws.specs.Kinds.{is_finish, is_start}
use Rattle.model_laws.specs.Restarts.{stage_restarted, task_restarted}
use Rattle.model_laws.proofs.Counting.{count_lost}
use Rattle.model_laws.proofs.Interrupts.{restarted as restarted_rows}
use Rattle.model_laws.proofs.RunLemmas.{after_allowed, after_step}
use Rattle.model_laws.proofs.Tests.{first_is_ready, fresh_not_running, passing}
use Rattle.book_model.specs.Stores.{restarted}
use Rattle.run_crew.specs.Audits.{NoneLeft, is_ready_or_running}
use Rattle.run_crew.specs.Desks.{finishes_of, starts_of}
use Rattle.run_crew.specs.Openings.{is_work}

abbrev runs : Task → Bool
runs row = is_running row.stage

count_more : (row : Task) (rows : List Task)
    → running_count (row ∷ rows) ≡ cond (is_running row.stage) 1 0 + running_count rows
count_more row rows = sum_by-cons (λ (x : Task). cond (is_running x.stage) 1 0) row rows

-- If a row that isn't running begins to run, the count is greater by one.
count_gained : (n : ℕ) (rows : List Task) (row : Task) → slice_get rows n ≡ Some row
    → is_running row.stage ≡ false
    → running_count (at_row (with_stage stage.Running) n rows) ≡ running_count rows + 1
count_gained n [] row found rests = absurd (none-some row found)
count_gained zero (r ∷ rows) row found rests =
    let new = count_more (with_stage stage.Running r) rows in
    let old = count_more r rows
    ∙ ap (λ b. cond b 1 0 + running_count rows)
    (ap runs (same_Some r row found) ∙ rests) in
    omega (arith, new, old)
count_gained (suc n) (r ∷ rows) row found rests =
    let new = count_more r (at_row (with_stage stage.Running) n rows) in
    let old = count_more r rows in
    let more = count_gained n rows row found rests in
    omega (arith, new, old, more)

-- A task that may be started is there, and doesn't run.
startable : (p : State) (n : ℕ) → allowed p (event.Start n) ≡ true
    → (row : Task) × (slice_get p.work.tasks n ≡ Some row) × (is_running row.stage ≡ false)
startable p n may =
    let parts = each_fails (refusals p (event.Start n)) may in
    let ready = first_is_ready p.work n (not-false _ parts.0) in
    let row = passing (λ task. is_fresh task.stage && is_admitted p.work n task)
    (slice_get p.work.tasks n) ready in (
      row.0,
      row.1,
      fresh_not_running row.0.stage
          (and_parts (is_fresh row.0.stage) (is_admitted p.work n row.0) row.2).0,
    )

ended : (how : Outcome) → is_running (stage_of how) ≡ false
ended outcome.Success = refl
ended (outcome.Failure text) = refl

start_gained : (p : State) (n : ℕ) → allowed p (event.Start n) ≡ true
    → running_count (step p (event.Start n)).work.tasks ≡ running_count p.work.tasks + 1
start_gained p n may =
    let row = startable p n may in count_gained n p.work.tasks row.0 row.1 row.2

finish_lost : (p : State) (n : ℕ) (how : Outcome) → allowed p (event.Finish n how) ≡ true
    → running_count (step p (event.Finish n how)).work.tasks + 1 ≡ running_count p.work.tasks
finish_lost p n how may =
    let row = passing (λ task. is_running task.stage) (slice_get p.work.tasks n)
    (not-false _ (each_fails (refusals p (event.Finish n how)) may).1.0) in
    count_lost runs (with_stage (stage_of how)) n p.work.tasks row.0 row.1 row.2
    (λ r. ended how)

-- One start or finish.
one_event : (p : State) (made : Event) → allowed p made ≡ true → is_work made ≡ true
    → running_count (step p made).work.tasks + cond (is_finish made) 1 0
    ≡ running_count p.work.tasks + cond (is_start made) 1 0
one_event p (event.Derive name parent kind) may work = absurd (both_ways false refl work)
one_event p (event.Cancel s cause) may work = absurd (both_ways false refl work)
one_event p (event.Advance moment) may work = absurd (both_ways false refl work)
one_event p (event.Group name parent) may work = absurd (both_ways false refl work)
one_event p (event.Bare name s) may work = absurd (both_ways false refl work)
one_event p (event.SetLimit g limit) may work = absurd (both_ways false refl work)
one_event p (event.Go g job argument) may work = absurd (both_ways false refl work)
one_event p (event.TryGo g job argument) may work = absurd (both_ways false refl work)
one_event p (event.Retry k) may work = absurd (both_ways false refl work)
one_event p (event.Start k) may work =
    let more = start_gained p k may in omega (arith, more)
one_event p (event.Finish k how) may work =
    let less = finish_lost p k how may in omega (arith, less)
one_event p (event.Wait g) may work = absurd (both_ways false refl work)
one_event p event.Restart may work = absurd (both_ways false refl work)

-- Starts and finishes, one after another.
all_events : (p q : State) (events : List Event) → run p events ≡ Some q
    → list_all is_work events ≡ true
    → running_count q.work.tasks + finishes_of events
    ≡ running_count p.work.tasks + starts_of events
all_events p q [] led only =
    ap (λ (s : State). running_count s.work.tasks + 0) (sym (same_Some p q led))
all_events p q (made ∷ events) led only =
    let parts = and_parts (is_work made) (list_all is_work events) only in
    option_and_then_some (λ next. run next events) (after p made) q led
    (λ next first rest.
    joins next (after_step p next made first)
    (one_event p made (after_allowed p next made first) parts.0)
    (all_events next q events rest parts.1))
  where
    joins : (next : State) → step p made ≡ next
        → running_count (step p made).work.tasks + cond (is_finish made) 1 0
        ≡ running_count p.work.tasks + cond (is_start made) 1 0
        → running_count q.work.tasks + finishes_of events
        ≡ running_count next.work.tasks + starts_of events
        → running_count q.work.tasks + finishes_of (made ∷ events)
        ≡ running_count p.work.tasks + starts_of (made ∷ events)
    joins next same one more =
        let is = ap (λ (s : State). running_count s.work.tasks) same in
        let starts : starts_of (made ∷ events) ≡ cond (is_start made) 1 0 + starts_of events =
        sum_by-cons (λ (e : Event). cond (is_start e) 1 0) made events in
        let finishes : finishes_of (made ∷ events)
        ≡ cond (is_finish made) 1 0 + finishes_of events =
        sum_by-cons (λ (e : Event). cond (is_finish e) 1 0) made events in
        omega (arith, is, one, more, starts, finishes)

-- ---- the first and the last state

none_running : (rows : List Task)
    → ((n : ℕ) (row : Task) → slice_get rows n ≡ Some row → is_running row.stage ≡ false)
    → running_count rows ≡ 0
none_running [] each = refl
none_running (row ∷ rows) each =
    let sum = count_more row rows
    ∙ ap (λ b. cond b 1 0 + running_count rows) (each zero row refl) in
    let more = none_running rows (λ n r at. each (suc n) r at) in
    omega (arith, sum, more)

stage_rests : (s : Stage) → is_running (stage_restarted s) ≡ false
stage_rests stage.Fresh = refl
stage_rests stage.Running = refl
stage_rests stage.Success = refl
stage_rests (stage.Failure text) = refl
stage_rests stage.Interrupted = refl

restart_rests : (rows : List Task) → running_count (map task_restarted rows) ≡ 0
restart_rests [] = refl
restart_rests (row ∷ rows) =
    let sum = count_more (task_restarted row) (map task_restarted rows)
    ∙ ap (λ b. cond b 1 0 + running_count (map task_restarted rows)) (stage_rests row.stage) in
    let more = restart_rests rows in
    omega (arith, sum, more)

restarted_none : (p : State) → running_count (restarted p).work.tasks ≡ 0
restarted_none p =
    ap running_count (restarted_rows p).tasks ∙ restart_rests p.work.tasks

not_left : (admitted : Bool) (s : Stage) → is_ready_or_running (phase_by admitted s) ≡ false
    → is_running s ≡ false
not_left admitted stage.Fresh is = refl
not_left admitted stage.Running is = absurd (both_ways true is refl)
not_left admitted stage.Success is = refl
not_left admitted (stage.Failure text) is = refl
not_left admitted stage.Interrupted is = refl

left_none : (work : WorkState) → NoneLeft work → running_count work.tasks ≡ 0
left_none work none =
    none_running work.tasks
    (λ n row at.
    not_left (is_admitted work n row) row.stage
    (sym (ap (λ (o : Option Task). option_map_or is_ready_or_running
    (option_map (λ task. phase_by (is_admitted work n task) task.stage) o) false) at) ∙ none n))

-- As many tasks were started after a restart as finished.
pub balanced : (p q : State) (events : List Event) → run (restarted p) events ≡ Some q
    → list_all is_work events ≡ true → NoneLeft q.work → starts_of events ≡ finishes_of events
balanced p q events led only none =
    let all = all_events (restarted p) q events led only in
    let first = restarted_none p in
    let last = left_none q.work none in
    omega (arith, all, first, last)
