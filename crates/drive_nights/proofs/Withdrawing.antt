-- What was submitted and not started is withdrawn.
use Rattle.std.proofs.Common.{◌≡◌, ◌≢◌, ◌<◌, ◌≤◌, ◌∙◌, ◌&&◌, ◌⊎◌, ℕ, zero, suc, Bool, true, false}
use Rattle.std.proofs.Common.{List, Option, Some, None, Result, Ok, Err, codes, length, slice_get}
use Rattle.std.proofs.Common.{inl, inr, ap, refl, sym, subst, arith}
use Rattle.std.proofs.lemmas.Bool.{cases_eq, cases_lt, false≢true}
use Rattle.std.proofs.lemmas.Option.{slice_get_past}
use Rattle.std.specs.Option.{option_map, option_map_or}
use Rattle.std.specs.Result.{result_unwrap_or}
use Rattle.run_model.proofs.Common.{and_parts, unless_Ok}
use Rattle.run_model.proofs.RowLemmas.{length-at_row, slice_get-at_row_other}
use Rattle.run_model.proofs.RowLemmas.{slice_get-at_row_same}
use Rattle.run_model.specs.Allowed.{refusals}
use Rattle.run_model.specs.declared.answers.Reply.TheVariants as reply
use Rattle.run_model.specs.declared.commands.Step.{Step}
use Rattle.run_model.specs.declared.commands.Step.TheVariants as step
use Rattle.run_model.specs.declared.refusals.Refusal.{Refusal}
use Rattle.run_model.specs.declared.tasks.Outcome.{Outcome}
use Rattle.run_model.specs.declared.tasks.Outcome.TheVariants as outcome
use Rattle.run_model.specs.declared.tasks.Stage.{Stage}
use Rattle.run_model.specs.declared.tasks.Stage.TheVariants as stage
use Rattle.run_model.specs.declared.tasks.Task.{Task}
use Rattle.run_model.specs.Event.{Event}
use Rattle.run_model.specs.Event as event
use Rattle.run_model.specs.Replies.{decide_finish, decide_start, reply_finish}
use Rattle.run_model.specs.Session.{Session, after_step, event_of_step, replied, reply_of_step}
use Rattle.run_model.specs.Session.{session_after, with_event}
use Rattle.run_model.specs.State.{State}
use Rattle.run_model.specs.Step as change
use Rattle.run_model.specs.Tasks.{has_stage, is_fresh, is_running}
use Rattle.run_model.specs.WorkChanges.{group_of_task, with_error, with_stage}
use Rattle.model_laws.proofs.Passing.{and_then_Ok, room_fits}
use Rattle.model_laws.proofs.StartingReplies.{finish_leads, start_first}
use Rattle.model_laws.proofs.Stepping.{made_Some}
use Rattle.night_drive.specs.PlanTurns.{AreBare}
use Rattle.night_drive.specs.Seen.{is_owned, known_of}
use Rattle.night_drive.proofs.Finishing.{finished}
use Rattle.night_drive.proofs.Hitting.{bare_finishes}
use Rattle.night_drive.proofs.Staying.{error_keeps}
use Rattle.night_drive.proofs.Withdrawing.{withdrawal_leaves}
use Rattle.drive_nights.specs.Effects.{AreTaken, is_taken}
use Rattle.drive_nights.specs.Openings.{withdrawals_below, withdrawn_if}
use Rattle.drive_nights.specs.Results.{KeepsGroups}
use Rattle.drive_nights.proofs.Adding.{groups_erred, groups_here, groups_on}
use Rattle.drive_nights.proofs.Making.{own_of, unmarked_owns}
use Rattle.drive_nights.proofs.Taking.{steps_join, taken_join}

-- From the first state to the second one, the tasks below this number were withdrawn if they hadn't
-- been started, and nothing else has changed.
pub record Withdrawn (p q : State) (k : ℕ) : Type 0 where
  pub tree : q.tree ≡ p.tree
  pub bare : AreBare q.work
  pub later : (m : ℕ) → k ≤ m → slice_get q.work.tasks m ≡ slice_get p.work.tasks m
  pub none : (m : ℕ) → m < k → has_stage is_fresh q.work m ≡ false
  pub owned : (night : Option (List ℕ)) (group : List ℕ) (g : ℕ)
      → is_owned q night group g ≡ is_owned p night group g
  pub groups : length q.work.groups ≡ length p.work.groups
  pub keeps : KeepsGroups p q
  pub same : (m : ℕ) → has_stage is_fresh p.work m ≡ false
      → slice_get q.work.tasks m ≡ slice_get p.work.tasks m
  pub many : length q.work.tasks ≡ length p.work.tasks
  pub ran : (m : ℕ) → has_stage is_running q.work m ≡ true → has_stage is_running p.work m ≡ true
  pub known : (ended : ℕ → ℕ) (night : Option (List ℕ)) (group key : List ℕ)
      → known_of q ended night group key ≡ known_of p ended night group key

nothing_withdrawn : (p : State) → AreBare p.work → Withdrawn p p 0
nothing_withdrawn p bare = record {
  tree = refl;
  bare = bare;
  later = λ m more. refl;
  none = λ m less. absurd (omega (arith, less));
  owned = λ night group g. refl;
  groups = refl;
  keeps = groups_here p;
  same = λ m stale. refl;
  many = refl;
  ran = λ m runs. runs;
  known = λ ended night group key. refl;
}

-- ---- the two steps

not_both : (o : Option Task) → option_map_or (λ (task : Task). is_fresh task.stage) o false ≡ true
    → option_map_or (λ (task : Task). is_running task.stage) o false ≡ true → ⊥
not_both None fresh runs = cc
not_both (Some task) fresh runs = by_stage task.stage fresh runs
  where
    by_stage : (s : Stage) → is_fresh s ≡ true → is_running s ≡ true → ⊥
    by_stage stage.Fresh fresh runs = cc
    by_stage stage.Running fresh runs = cc
    by_stage stage.Success fresh runs = cc
    by_stage (stage.Failure text) fresh runs = cc
    by_stage stage.Interrupted fresh runs = cc

finish_ok : (r : Result ℕ Refusal) → is_taken (replied reply.Finished r) ≡ true
    → (n : ℕ) × (r ≡ Ok n)
finish_ok (Ok n) e = (n, refl)
finish_ok (Err why) e = cc

-- A finish that was taken ends a task that ran.
finish_taken : (s : Session) (n : ℕ) (o : Outcome)
    → is_taken (reply_of_step s (step.Finish n o)) ≡ true
    → (has_stage is_running s.state.work n ≡ true)
    × (event_of_step s (step.Finish n o) ≡ Some (event.Finish n o))
finish_taken s n o taken =
    let answer = finish_ok (reply_finish s.state n o) taken in
    let made = and_then_Ok (decide_finish s.state n o) _ answer.0 answer.1 in
    let passed = unless_Ok (refusals s.state (event.Finish n o)) (Ok (Some (event.Finish n o)))
    made.0 made.1 in
    let same : made.0 ≡ Some (event.Finish n o) = cc in
    let decided : decide_finish s.state n o ≡ Ok (Some (event.Finish n o)) =
    made.1 ∙ ap (λ (x : Option Event). Ok x) same in (
      (finish_leads s.state n o (event.Finish n o) decided).0,
      ap (λ r. result_unwrap_or r None) decided,
    )

-- If a fresh task runs after a start, it is the one that was started.
started_it : (s : Session) (n : ℕ) → has_stage is_fresh s.state.work n ≡ true
    → has_stage is_running (after_step s step.Start).state.work n ≡ true
    → event_of_step s step.Start ≡ Some (event.Start n)
started_it s n fresh runs = by_event (event_of_step s step.Start) refl runs
  where
    by_event : (o : Option Event) → event_of_step s step.Start ≡ o
        → has_stage is_running (with_event s o).state.work n ≡ true
        → o ≡ Some (event.Start n)
    by_event None at runs = absurd (not_both (slice_get s.state.work.tasks n) fresh runs)
    by_event (Some made) at runs =
        let first = start_first s.state s.log (Some made)
        (made_Some (decide_start s.state s.log) made at) in
        let is : event.Start first.0 ≡ made =
        (room_fits s.state s.log (event.Start first.0) made first.2).1 in
        let ran : has_stage is_running (change.step s.state (event.Start first.0)).work n ≡ true =
        ap (λ (e : Event). has_stage is_running (change.step s.state e).work n) is ∙ runs in
        elim (cases_eq n first.0) [
          | inl same ↦
              ap (λ (e : Event). Some e) (sym is) ∙ ap (λ m. Some (event.Start m)) (sym same)
          | inr other ↦
              absurd (not_both (slice_get s.state.work.tasks n) fresh
              (sym (ap (λ o. option_map_or (λ (task : Task). is_running task.stage) o false)
              (slice_get-at_row_other (with_stage stage.Running) first.0 n s.state.work.tasks
              other)) ∙ ran))
        ]

-- ---- one task

-- The stage of task k is the one that it had at first.
stage_was : (p q : State) (k : ℕ) → Withdrawn p q k
    → has_stage is_fresh q.work k ≡ has_stage is_fresh p.work k
stage_was p q k it =
    ap (λ o. option_map_or (λ (task : Task). is_fresh task.stage) o false)
    (it.later k (omega arith))

both_withdrawn : (p q : State) (k : ℕ) → Withdrawn p q k → has_stage is_fresh q.work k ≡ true
    → Withdrawn p (change.step (change.step q (event.Start k))
    (event.Finish k (outcome.Failure (codes "withdrawn")))) (suc k)
both_withdrawn p q k it fresh = record {
  tree = bare_finishes r k w (it.bare (group_of_task r.work k)) ∙ it.tree;
  bare = λ g.
      unmarked_owns (slice_get (change.step r (event.Finish k w)).work.groups g)
      ∙ ap own_of (error_keeps (group_of_task r.work k) (Some (codes "withdrawn")) r.work.groups g)
      ∙ sym (unmarked_owns (slice_get q.work.groups g)) ∙ it.bare g;
  later = λ m more.
      let other : m ≢ k = omega (arith, more) in
      slice_get-at_row_other (with_stage failed) k m r.work.tasks other
      ∙ slice_get-at_row_other (with_stage stage.Running) k m q.work.tasks other
      ∙ it.later m (omega (arith, more));
  none = λ m less. by_place m (cases_eq m k) less;
  owned = λ night group g. (finished r k w).owned night group g ∙ it.owned night group g;
  groups = length-at_row (with_error (codes "withdrawn")) (group_of_task r.work k) q.work.groups
      ∙ it.groups;
  keeps = groups_on p q (change.step r (event.Finish k w)) it.keeps
      (groups_erred (group_of_task r.work k) (codes "withdrawn") r);
  same = λ m stale.
      let other : m ≢ k = λ e. absurd (false≢true (sym stale
      ∙ ap (has_stage is_fresh p.work) e ∙ sym (stage_was p q k it) ∙ fresh)) in
      slice_get-at_row_other (with_stage failed) k m r.work.tasks other
      ∙ slice_get-at_row_other (with_stage stage.Running) k m q.work.tasks other
      ∙ it.same m stale;
  many = length-at_row (with_stage failed) k r.work.tasks
      ∙ length-at_row (with_stage stage.Running) k q.work.tasks ∙ it.many;
  ran = λ m runs. by_ran m (cases_eq m k) runs;
  known = λ ended night group key.
      withdrawal_leaves q ended night group key k fresh ∙ it.known ended night group key;
}
  where
    r : State
    r = change.step q (event.Start k)

    w : Outcome
    w = outcome.Failure (codes "withdrawn")

    failed : Stage
    failed = stage.Failure (codes "withdrawn")

    by_row : (o : Option Task)
        → option_map_or (λ (task : Task). is_fresh task.stage)
        (option_map (with_stage (stage.Failure (codes "withdrawn"))) o) false ≡ false
    by_row None = refl
    by_row (Some task) = refl

    no_run : (o : Option Task)
        → option_map_or (λ (task : Task). is_running task.stage)
        (option_map (with_stage (stage.Failure (codes "withdrawn"))) o) false ≡ false
    no_run None = refl
    no_run (Some task) = refl

    by_ran : (m : ℕ) → (m ≡ k) ⊎ (m ≢ k)
        → has_stage is_running (change.step r (event.Finish k w)).work m ≡ true
        → has_stage is_running p.work m ≡ true
    by_ran m (inl same) runs =
        absurd (false≢true (sym (ap (λ i. has_stage is_running
        (change.step r (event.Finish k w)).work i) same
        ∙ ap (λ o. option_map_or (λ (task : Task). is_running task.stage) o false)
        (slice_get-at_row_same (with_stage failed) k r.work.tasks)
        ∙ no_run (slice_get r.work.tasks k)) ∙ runs))
    by_ran m (inr other) runs =
        it.ran m (sym (ap (λ o. option_map_or (λ (task : Task). is_running task.stage) o false)
        (slice_get-at_row_other (with_stage failed) k m r.work.tasks other
        ∙ slice_get-at_row_other (with_stage stage.Running) k m q.work.tasks other)) ∙ runs)

    by_place : (m : ℕ) → (m ≡ k) ⊎ (m ≢ k) → m < suc k
        → has_stage is_fresh (change.step r (event.Finish k w)).work m ≡ false
    by_place m (inl same) less =
        ap (λ i. has_stage is_fresh (change.step r (event.Finish k w)).work i) same
        ∙ ap (λ o. option_map_or (λ (task : Task). is_fresh task.stage) o false)
        (slice_get-at_row_same (with_stage failed) k r.work.tasks)
        ∙ by_row (slice_get r.work.tasks k)
    by_place m (inr other) less =
        ap (λ o. option_map_or (λ (task : Task). is_fresh task.stage) o false)
        (slice_get-at_row_other (with_stage failed) k m r.work.tasks other
        ∙ slice_get-at_row_other (with_stage stage.Running) k m q.work.tasks other)
        ∙ it.none m (omega (arith, less, other))

none_to : (p q : State) (k : ℕ) → Withdrawn p q k → has_stage is_fresh p.work k ≡ false
    → Withdrawn p q (suc k)
none_to p q k it stale = record {
  tree = it.tree;
  bare = it.bare;
  later = λ m more. it.later m (omega (arith, more));
  none = λ m less. elim (cases_eq m k) [
    | inl same ↦
        ap (has_stage is_fresh q.work) same ∙ stage_was p q k it ∙ stale
    | inr other ↦ it.none m (omega (arith, less, other))
  ];
  owned = it.owned;
  groups = it.groups;
  keeps = it.keeps;
  same = it.same;
  many = it.many;
  ran = it.ran;
  known = it.known;
}

one_more : (p : State) (t : Session) (k : ℕ) (b : Bool) → has_stage is_fresh p.work k ≡ b
    → Withdrawn p t.state k → AreTaken t (withdrawn_if b k)
    → Withdrawn p (session_after t (withdrawn_if b k)).state (suc k)
one_more p t k false is it taken = none_to p t.state k it is
one_more p t k true is it taken =
    let t1 : Session = after_step t step.Start in
    let w : Outcome = outcome.Failure (codes "withdrawn") in
    let parts = and_parts (is_taken (reply_of_step t step.Start))
    (is_taken (reply_of_step t1 (step.Finish k w)) && true) taken in
    let ends = and_parts (is_taken (reply_of_step t1 (step.Finish k w))) true parts.1 in
    let finish = finish_taken t1 k w ends.0 in
    let fresh : has_stage is_fresh t.state.work k ≡ true = stage_was p t.state k it ∙ is in
    let start = started_it t k fresh finish.0 in
    let first : t1 ≡ with_event t (Some (event.Start k)) = ap (with_event t) start in
    let second : after_step t1 (step.Finish k w)
    ≡ with_event (with_event t (Some (event.Start k))) (Some (event.Finish k w)) =
    ap (with_event t1) finish.1
    ∙ ap (λ (x : Session). with_event x (Some (event.Finish k w))) first in
    subst (λ (x : Session). Withdrawn p x.state (suc k)) (sym second)
    (both_withdrawn p t.state k it fresh)

-- ---- all tasks

withdrawn_below : (s : Session) → AreBare s.state.work → (k : ℕ)
    → AreTaken s (withdrawals_below s.state k)
    → Withdrawn s.state (session_after s (withdrawals_below s.state k)).state k
withdrawn_below s bare zero taken = nothing_withdrawn s.state bare
withdrawn_below s bare (suc k) taken =
    let before : List Step = withdrawals_below s.state k in
    let here : List Step = withdrawn_if (has_stage is_fresh s.state.work k) k in
    let parts = taken_join before here s taken in
    subst (λ (x : Session). Withdrawn s.state x.state (suc k)) (sym (steps_join before here s))
    (one_more s.state (session_after s before) k (has_stage is_fresh s.state.work k) refl
    (withdrawn_below s bare k parts.0) parts.1)

pub all_withdrawn : (s : Session) → AreBare s.state.work
    → AreTaken s (withdrawals_below s.state (length s.state.work.tasks))
    → Withdrawn s.state
    (session_after s (withdrawals_below s.state (length s.state.work.tasks))).state
    (length s.state.work.tasks)
all_withdrawn s bare taken = withdrawn_below s bare (length s.state.work.tasks) taken

-- So no task waits to be started.
pub none_waits : (p q : State) → Withdrawn p q (length p.work.tasks) → (m : ℕ)
    → has_stage is_fresh q.work m ≡ false
none_waits p q it m = elim (cases_lt m (length p.work.tasks)) [
  | inl less ↦ it.none m less
  | inr more ↦
      ap (λ o. option_map_or (λ (task : Task). is_fresh task.stage) o false)
      (slice_get_past q.work.tasks m (omega (arith, more, it.many)))
]
