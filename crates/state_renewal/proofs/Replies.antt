-- Both stores answer a command, a start or a finish about what goes on in the same way.
use Rattle.run_model.proofs.Common.{◌≡◌, ◌+◌, ℕ, Bool, true, false, length, Option, Some, None}
use Rattle.run_model.proofs.Common.{slice_get, refl, sym, ap, ◌∙◌, arith, ok_or, option_and_then}
use Rattle.run_model.proofs.Common.{option_map, option_map_or, if◌then◌else◌, Result, Ok, Err}
use Rattle.run_model.proofs.Common.{unwrap_or, Event, refusals, unless, decided, and_then}
use Rattle.run_model.proofs.Common.{answer_of, event_of, group_of, is_repeated, reply_finish}
use Rattle.run_model.proofs.Common.{reply_start, started_of, state_after, IsConsistent, is_done}
use Rattle.run_model.proofs.Common.{State, WorkState, step, first_ready, is_ready, phase_of}
use Rattle.run_model.proofs.Common.{range_with_len}
use Rattle.run_model.specs.declared.answers.Answer.{Answer}
use Rattle.run_model.specs.declared.answers.Answer.TheVariants as answer
use Rattle.run_model.specs.declared.answers.Started.{Started}
use Rattle.run_model.specs.declared.commands.Command.{Command}
use Rattle.run_model.specs.declared.commands.Command.TheVariants as command
use Rattle.run_model.specs.declared.refusals.Refusal.{Refusal}
use Rattle.run_model.specs.declared.refusals.Refusal.TheVariants as refusal
use Rattle.run_model.specs.declared.tasks.Outcome.{Outcome}
use Rattle.run_model.specs.declared.tasks.Phase.TheVariants as phase
use Rattle.run_model.specs.declared.tasks.Task.{Task}
use Rattle.run_model.specs.Event as event
use Rattle.run_model.specs.Replies.{is_task_done, reply, submission}
use Rattle.model_laws.proofs.Allowing.{unrefused_allowed}
use Rattle.model_laws.proofs.Tests.{found_passes}
use Rattle.state_renewal.specs.Renewed.{
  new_number,
  Part,
  group_renumbered,
  scope_renumbered,
  state_renumbered,
}
use Rattle.state_renewal.specs.Renewed.{task_renumbered, work_renumbered}
use Rattle.state_renewal.specs.PartEvents.{event_renumbered, has_place}
use Rattle.state_renewal.specs.Answered.{
  answer_renumbered,
  calls_part,
  command_renumbered,
  reply_renumbered,
}
use Rattle.state_renewal.specs.Answered.{started_renumbered}
use Rattle.state_renewal.proofs.Chains.{done_renumbered}
use Rattle.state_renewal.proofs.Refusals.{refusals_renumbered}
use Rattle.state_renewal.proofs.Goes.{Goes, hangs}
use Rattle.state_renewal.proofs.GoesStill.{goes_still}
use Rattle.state_renewal.proofs.Decided.{decided_alike, repeated_same, tests_alike}
use Rattle.state_renewal.proofs.Named.{IsAskedRenumbered, asked_renumbered, group_on}
use Rattle.state_renewal.proofs.RowsRenumbered.{length-renumbered, row_renumbered}
use Rattle.state_renewal.proofs.Runs.{Both, are_both}
use Rattle.state_renewal.proofs.Steps.{step_renumbered}
use Rattle.state_renewal.proofs.Works.{first_renumbered, phase_renumbered, ready_goes}

-- ---- answers

-- A task that was submitted has the next number, and is as far in both.
submission_renumbered : (part : Part) (p q : State) → Goes part p → Goes part q
    → submission (state_renumbered part p) (state_renumbered part q) ≡ answer_renumbered part
    (submission p q)
submission_renumbered part p q go_p go_q =
    let many = length p.work.tasks in
    ap (λ n. answer.Task n (unwrap_or (phase_of (work_renumbered part q.work) n) phase.Held))
    (length-renumbered part.tasks (task_renumbered part) p.work.tasks)
    ∙ ap (λ o. answer.Task (new_number part.tasks many) (unwrap_or o phase.Held))
    (phase_renumbered part q.work many go_q.work.tasks.each
    (go_p.work.tasks.later many (omega arith)))

error_renumbered : (part : Part) (w : WorkState) (g : ℕ) → part.groups g ≡ true
    → option_and_then (λ row. row.error)
    (slice_get (work_renumbered part w).groups (new_number part.groups g))
    ≡ option_and_then (λ row. row.error) (slice_get w.groups g)
error_renumbered part w g is =
    row_renumbered (option_and_then (λ row. row.error))
    (option_and_then (λ row. row.error)) part.groups
    (group_renumbered part) w.groups g refl (λ row at. refl) is

answers_renumbered : (part : Part) (p q : State) (call : Command)
    → IsConsistent (state_renumbered part p)
    → Goes part p → Goes part q → calls_part part p call ≡ true
    → answer_of (state_renumbered part p) (state_renumbered part q) (command_renumbered part call)
    ≡ answer_renumbered part (answer_of p q call)
answers_renumbered part p q (command.Derive name parent wish) renumbered go_p go_q is =
    ap answer.Scope (length-renumbered part.scopes (scope_renumbered part) p.tree.scopes)
answers_renumbered part p q (command.Cancel scope cause) renumbered go_p go_q is = refl
answers_renumbered part p q (command.Advance moment) renumbered go_p go_q is = refl
answers_renumbered part p q (command.Group name parent) renumbered go_p go_q is =
    ap (λ g. answer.Group g (Some (length (state_renumbered part p).tree.scopes)))
    (length-renumbered part.groups (group_renumbered part) p.work.groups)
    ∙ ap (λ s. answer.Group (new_number part.groups (length p.work.groups)) (Some s))
    (length-renumbered part.scopes (scope_renumbered part) p.tree.scopes)
answers_renumbered part p q (command.Bare name scope) renumbered go_p go_q is =
    ap (λ g. answer.Group g None)
    (length-renumbered part.groups (group_renumbered part) p.work.groups)
answers_renumbered part p q (command.SetLimit group limit) renumbered go_p go_q is = refl
answers_renumbered part p q (command.Go group job argument) renumbered go_p go_q is =
    submission_renumbered part p q go_p go_q
answers_renumbered part p q (command.TryGo group job argument) renumbered go_p go_q is =
    submission_renumbered part p q go_p go_q
answers_renumbered part p q
    (command.Retry n) renumbered go_p go_q is = submission_renumbered part p q go_p go_q
answers_renumbered part p q (command.Wait group) renumbered go_p go_q is =
    let on = group_on part p group renumbered is in
    ap (λ g. answer.Waited
    (option_and_then (λ row. row.error) (slice_get (work_renumbered part q.work).groups g))) on.1
    ∙ ap answer.Waited (error_renumbered part q.work (group_of p group) on.0)

-- ---- commands

pub commands_alike : (part : Part) (p : State) (log : ℕ) (call : Command) → Both part p
    → calls_part part p call ≡ true → has_place p (event_of p call) ≡ true
    → reply (state_renumbered part p) log (command_renumbered part call)
    ≡ reply_renumbered (answer_renumbered part) (reply p log call)
commands_alike part p log call both is place =
    ap (λ b. answered_by b (event_of new call_new)) (repeated_same part p call both.new is)
    ∙ ap (answered_by (is_repeated p call)) asked.restated
    ∙ by_repeated (is_repeated p call)
  where
    new : State
    new = state_renumbered part p

    call_new : Command
    call_new = command_renumbered part call

    e : Event
    e = event_of p call

    asked : IsAskedRenumbered part p call
    asked = asked_renumbered part p call both.new is

    answered : Option Event → Result Answer Refusal
    answered made = Ok (answer_of p (state_after p made) call)

    answered_new : Option Event → Result Answer Refusal
    answered_new made = Ok (answer_of new (state_after new made) call_new)

    answered_by : Bool → Event → Result Answer Refusal
    answered_by b f = and_then (if b then Ok None else decided new log f) answered_new

    by_repeated : (b : Bool) → answered_by b (event_renumbered part e)
        ≡ reply_renumbered (answer_renumbered part)
        (and_then (if b then Ok None else decided p log e) answered)
    by_repeated true = ap Ok (answers_renumbered part p p call both.new both.go both.go is)
    by_repeated false =
        decided_alike
        (answer_renumbered part) part p log e answered_new answered both asked.names place
        (unrefused_allowed p call)
        (ap Ok (ap (λ q. answer_of new q call_new)
        (step_renumbered part p e both.old both.go asked.names)
        ∙ answers_renumbered part p (step p e) call both.new both.go
        (goes_still part p e both.go asked.names) is))

-- ---- starts

done_same : (part : Part) (p : State) (n : ℕ) (row : Task) → Both part p
    → slice_get p.work.tasks n ≡ Some row → part.tasks n ≡ true
    → is_task_done (state_renumbered part p) (task_renumbered part row) ≡ is_task_done p row
done_same part p n row both at is =
    row_renumbered
    (λ o. option_map_or
    (λ group. is_done (state_renumbered part p).tree.scopes group.scope) o false)
    (λ o. option_map_or (λ group. is_done p.tree.scopes group.scope) o false) part.groups
    (group_renumbered part) p.work.groups row.group refl
    (λ group found.
    done_renumbered part p (are_both part p both) group.scope
    ((both.go.work.groups.each row.group group found).scope goes)) goes
  where
    goes : part.groups row.group ≡ true
    goes = sym (both.go.work.tasks.each n row at) ∙ is

abbrev started_at : ℕ → ℕ → Bool → Task → Started
started_at count n done row = record {
  event = count + 1;
  info = record { task = n; job = row.job; argument = row.argument };
  done = done;
}

started_same : (part : Part) (p : State) (n : ℕ) → Both part p → part.tasks n ≡ true
    → started_of (state_renumbered part p) (new_number part.tasks n)
    ≡ option_map (started_renumbered part) (started_of p n)
started_same part p n both is =
    row_renumbered
    (option_map (λ row. started_at p.count (new_number part.tasks n)
    (is_task_done (state_renumbered part p) row) row))
    (λ o. option_map (started_renumbered part)
    (option_map (λ row. started_at p.count n (is_task_done p row) row) o)) part.tasks
    (task_renumbered part) p.work.tasks n refl
    (λ row at.
    ap (λ b. Some (started_at p.count (new_number part.tasks n) b row))
    (done_same part p n row both at is)) is

ok_or_renumbered : {X : Type 0} (renumber : X → X) (o : Option X) (why : Refusal)
    → ok_or (option_map renumber o) why ≡ reply_renumbered renumber (ok_or o why)
ok_or_renumbered renumber None why = refl
ok_or_renumbered renumber (Some x) why = refl

pub starts_alike : (part : Part) (p : State) (log : ℕ) → Both part p
    → reply_start (state_renumbered part p) log
    ≡ reply_renumbered (started_renumbered part) (reply_start p log)
starts_alike part p log both =
    ap (λ first. start_by (unwrap_or first (length new.work.tasks)) first)
    (first_renumbered part p both.old (hangs part p both.go).work)
    ∙ by_first (first_ready p.work) refl
  where
    new : State
    new = state_renumbered part p

    started : Option ℕ → Option Event → Result Started Refusal
    started first made = ok_or (option_and_then (started_of p) first) refusal.NothingReady

    started_new : Option ℕ → Option Event → Result Started Refusal
    started_new first made = ok_or (option_and_then (started_of new) first) refusal.NothingReady

    start_by : ℕ → Option ℕ → Result Started Refusal
    start_by n first = and_then (decided new log (event.Start n)) (started_new first)

    by_number : (n : ℕ) (first : Option ℕ) → part.tasks n ≡ true
        → ok_or (option_and_then (started_of new) (option_map (new_number part.tasks) first))
        refusal.NothingReady
        ≡ reply_renumbered (started_renumbered part)
        (ok_or (option_and_then (started_of p) first) refusal.NothingReady)
        → start_by (new_number part.tasks n) (option_map (new_number part.tasks) first)
        ≡ reply_renumbered (started_renumbered part)
        (and_then (decided p log (event.Start n)) (started first))
    by_number n first is same =
        decided_alike (started_renumbered part) part p log (event.Start n)
        (started_new (option_map (new_number part.tasks) first)) (started first) both is refl
        (λ none. none) same

    by_first : (o : Option ℕ) → first_ready p.work ≡ o
        → start_by (unwrap_or (option_map (new_number part.tasks) o) (length new.work.tasks))
        (option_map (new_number part.tasks) o)
        ≡ reply_renumbered (started_renumbered part)
        (and_then (decided p log (event.Start (unwrap_or o (length p.work.tasks)))) (started o))
    by_first None at =
        ap (λ n. start_by n None) (length-renumbered part.tasks (task_renumbered part) p.work.tasks)
        ∙ by_number (length p.work.tasks) None
        (both.go.work.tasks.later (length p.work.tasks) (omega arith)) refl
    by_first (Some n) at =
        let is =
        ready_goes part p n both.old (hangs part p both.go).work
        (found_passes (is_ready p.work) (range_with_len 0 (length p.work.tasks)) n at) in
        by_number n (Some n) is
        (ap (λ o. ok_or o refusal.NothingReady) (started_same part p n both is)
        ∙ ok_or_renumbered (started_renumbered part) (started_of p n) refusal.NothingReady)

-- ---- finishes

same_renewed : {X : Type 0} (r : Result X Refusal) → reply_renumbered (λ x. x) r ≡ r
same_renewed (Ok x) = refl
same_renewed (Err why) = refl

pub finishes_alike : (part : Part) (p : State) (n : ℕ) (outcome : Outcome) → Both part p
    → part.tasks n ≡ true
    → reply_finish (state_renumbered part p) (new_number part.tasks n) outcome
    ≡ reply_finish p n outcome
finishes_alike part p n outcome both is =
    let e : Event = event.Finish n outcome in
    let f : Event = event.Finish (new_number part.tasks n) outcome in
    let made : Option Event → Result ℕ Refusal = λ made. Ok (p.count + 1) in
    ap (λ tests. and_then (unless tests (Ok (Some f))) made)
    (refusals_renumbered part p e (are_both part p both) is refl)
    ∙ tests_alike (λ k. k) (refusals p e) false false f e made made (λ none. refl) refl
    ∙ same_renewed (reply_finish p n outcome)
