-- Both stores decide an event that refers only to what goes on in the same way.
use Rattle.run_model.proofs.Common.{◌≡◌, ◌&&◌, ◌+◌, ◌*◌, ℕ, Bool, true, false, not, List, [], ◌∷◌}
use Rattle.run_model.proofs.Common.{Option, Some, refl, sym, ap, ◌∙◌, Result, Ok, Err}
use Rattle.run_model.proofs.Common.{if◌then◌else◌, nat_lt, both_ways, false_from_ne_true, allowed}
use Rattle.run_model.proofs.Common.{refusals, unless, Event, body_len, record_len, and_then}
use Rattle.run_model.proofs.Common.{decided, if_room, group_of, is_full, is_repeated, IsConsistent}
use Rattle.run_model.proofs.Common.{State, step, is_running, is_unfinished, running_count}
use Rattle.run_model.proofs.Common.{list_all}
use Rattle.run_model.specs.declared.bounds.TheConstants.{FINISH_ROOM, SESSION_LEN}
use Rattle.run_model.specs.declared.commands.Command.{Command}
use Rattle.run_model.specs.declared.commands.Command.TheVariants as command
use Rattle.run_model.specs.declared.refusals.Refusal.{Refusal}
use Rattle.run_model.specs.declared.refusals.Refusal.TheVariants as refusal
use Rattle.run_model.specs.Event as event
use Rattle.run_model.proofs.Lengths.{record_len_is}
use Rattle.run_model.specs.Replies.{has_waited}
use Rattle.state_renewal.specs.Renewed.{
  Part,
  group_renumbered,
  state_renumbered,
  task_renumbered,
  work_renumbered,
}
use Rattle.state_renewal.specs.PartEvents.{event_renumbered, has_place, names_part}
use Rattle.state_renewal.specs.Answered.{reply_renumbered, calls_part, command_renumbered}
use Rattle.state_renewal.proofs.Refusals.{refusals_renumbered}
use Rattle.state_renewal.proofs.Goes.{hangs}
use Rattle.state_renewal.proofs.Runs.{Both, are_both, both_step}
use Rattle.state_renewal.proofs.Steps.{step_renumbered}
use Rattle.state_renewal.proofs.Hangs.{WorkHangs}
use Rattle.state_renewal.proofs.Named.{group_on}
use Rattle.state_renewal.proofs.PassRenumbered.{count_all_renumbered}
use Rattle.state_renewal.proofs.RowsRenumbered.{test_renumbered}
use Rattle.state_renewal.proofs.Works.{gone_ended}
use Rattle.model_laws.proofs.Admission.{running_unfinished}

-- ---- repeated waits

pub repeated_same : (part : Part) (p : State) (call : Command)
    → IsConsistent (state_renumbered part p) → calls_part part p call ≡ true
    → is_repeated (state_renumbered part p) (command_renumbered part call) ≡ is_repeated p call
repeated_same part p (command.Derive name parent wish) renumbered is = refl
repeated_same part p (command.Cancel scope cause) renumbered is = refl
repeated_same part p (command.Advance moment) renumbered is = refl
repeated_same part p (command.Group name parent) renumbered is = refl
repeated_same part p (command.Bare name scope) renumbered is = refl
repeated_same part p (command.SetLimit group limit) renumbered is = refl
repeated_same part p (command.Go group job argument) renumbered is = refl
repeated_same part p (command.TryGo group job argument) renumbered is = refl
repeated_same part p (command.Retry n) renumbered is = refl
repeated_same part p (command.Wait group) renumbered is =
    let on = group_on part p group renumbered is in
    ap (has_waited (state_renumbered part p).work) on.1
    ∙ test_renumbered (λ row. row.waited) part.groups (group_renumbered part) p.work.groups
    (group_of p group)
    (λ row. refl) on.0

-- ---- the free bytes of the log

running_same : (part : Part) (p : State) → IsConsistent p → WorkHangs part p.work
    → running_count (work_renumbered part p.work).tasks ≡ running_count p.work.tasks
running_same part p consistent go =
    count_all_renumbered part.tasks (task_renumbered part) (λ task. is_running task.stage)
    (λ task. is_running task.stage) p.work.tasks
    (record {
      on = λ n x found goes. refl;
      gone =
          λ n x found goes.
          false_from_ne_true (is_running x.stage)
          (λ runs.
          both_ways (is_unfinished x.stage) (gone_ended part p n x consistent go found goes)
          (running_unfinished x.stage runs));
    })

fields_renumbered : (part : Part) (e : Event) → body_len (event_renumbered part e) ≡ body_len e
fields_renumbered part (event.Derive name parent kind) = refl
fields_renumbered part (event.Cancel s cause) = refl
fields_renumbered part (event.Advance moment) = refl
fields_renumbered part (event.Group name parent) = refl
fields_renumbered part (event.Bare name s) = refl
fields_renumbered part (event.SetLimit g limit) = refl
fields_renumbered part (event.Go g job argument) = refl
fields_renumbered part (event.TryGo g job argument) = refl
fields_renumbered part (event.Retry n) = refl
fields_renumbered part (event.Start n) = refl
fields_renumbered part (event.Finish n outcome) = refl
fields_renumbered part (event.Wait g) = refl
fields_renumbered part event.Restart = refl

-- The record is as long in both logs.
len_renumbered : (part : Part) (e : Event) → record_len (event_renumbered part e) ≡ record_len e
len_renumbered part e =
    record_len_is (event_renumbered part e) ∙ ap (λ n. 3 + n) (fields_renumbered part e)
    ∙ sym (record_len_is e)

abbrev full_at : ℕ → ℕ → ℕ → Bool
full_at log len running = nat_lt SESSION_LEN (log + len + FINISH_ROOM * running)

full_renumbered : (part : Part) (p : State) (log : ℕ) (e : Event) → Both part p
    → names_part part e ≡ true → allowed p e ≡ true
    → is_full (state_renumbered part p) log (event_renumbered part e) ≡ is_full p log e
full_renumbered part p log e both is may =
    let behind = both_step part p e both is may in
    ap (λ len. full_at log len
    (running_count (step (state_renumbered part p) (event_renumbered part e)).work.tasks))
    (len_renumbered part e)
    ∙ ap (λ q. full_at log (record_len e) (running_count q.work.tasks))
    (step_renumbered part p e both.old both.go is)
    ∙ ap (full_at log (record_len e))
    (running_same part (step p e) behind.old (hangs part (step p e) behind.go).work)

-- ---- decisions

-- If two events have the same result and are decided by the same tests, the decisions have the same
-- result.
pub tests_alike : {X : Type 0} (renumber : X → X) (tests : List (Bool × Refusal))
    (full_new full : Bool)
    (f e : Event) (new old : Option Event → Result X Refusal)
    → (list_all (λ t. not t.0) tests ≡ true → full_new ≡ full)
    → new (Some f) ≡ reply_renumbered renumber (old (Some e))
    → and_then (unless tests (if full_new then Err refusal.SessionFull else Ok (Some f))) new
    ≡ reply_renumbered renumber
    (and_then (unless tests (if full then Err refusal.SessionFull else Ok (Some e))) old)
tests_alike renumber [] full_new full f e new old same some =
    ap (λ b. and_then (if b then Err refusal.SessionFull else Ok (Some f)) new) (same refl)
    ∙ by_room full
  where
    by_room : (b : Bool)
        → and_then (if b then Err refusal.SessionFull else Ok (Some f)) new
        ≡ reply_renumbered renumber
        (and_then (if b then Err refusal.SessionFull else Ok (Some e)) old)
    by_room true = refl
    by_room false = some
tests_alike renumber (t ∷ tests) full_new full f e new old same some =
    by_test t.0 same (λ rest. tests_alike renumber tests full_new full f e new old rest some)
  where
    rest_of : Bool → Event → Result (Option Event) Refusal
    rest_of b e = unless tests (if b then Err refusal.SessionFull else Ok (Some e))

    by_test : (b : Bool) → ((not b && list_all (λ t. not t.0) tests) ≡ true → full_new ≡ full)
        → ((list_all (λ t. not t.0) tests ≡ true → full_new ≡ full)
        → and_then (rest_of full_new f) new ≡ reply_renumbered renumber
        (and_then (rest_of full e) old))
        → and_then (if b then Err t.1 else rest_of full_new f) new
        ≡ reply_renumbered renumber (and_then (if b then Err t.1 else rest_of full e) old)
    by_test true same behind = refl
    by_test false same behind = behind same

-- If an event and the same event by the new numbers have the same result, their decisions have it,
-- too.
pub decided_alike : {X : Type 0} (renumber : X → X) (part : Part) (p : State) (log : ℕ) (e : Event)
    (new old : Option Event → Result X Refusal) → Both part p → names_part part e ≡ true
    → has_place p e ≡ true → (list_all (λ t. not t.0) (refusals p e) ≡ true → allowed p e ≡ true)
    → new (Some (event_renumbered part e)) ≡ reply_renumbered renumber (old (Some e))
    → and_then (decided (state_renumbered part p) log (event_renumbered part e)) new
    ≡ reply_renumbered renumber (and_then (decided p log e) old)
decided_alike renumber part p log e new old both is place may some =
    let f = event_renumbered part e in
    ap (λ tests. and_then (unless tests (if_room (state_renumbered part p) log f)) new)
    (refusals_renumbered part p e (are_both part p both) is place)
    ∙ tests_alike renumber (refusals p e) (is_full (state_renumbered part p) log f)
    (is_full p log e) f e
    new old (λ none. full_renumbered part p log e both is (may none)) some
