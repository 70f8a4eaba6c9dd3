-- A group that was waited for, and a task that was started, are shown as such.
use Rattle.run_model.proofs.Common.{◌≡◌, ◌+◌, ℕ, Bool, true, false, List, Option, Some, None}
use Rattle.run_model.proofs.Common.{Result, Ok, Err, slice_get, refl, sym, ap, subst, ◌∙◌}
use Rattle.run_model.proofs.Common.{option_map, option_and_then, ok_or, none-some, same_Some}
use Rattle.run_model.proofs.Common.{State, with_wait, with_stage, first_ready, state_after}
use Rattle.run_model.proofs.Common.{started_of, reply_start, decide_start, group_of, Session}
use Rattle.run_model.proofs.Common.{replied, is_first}
use Rattle.run_model.specs.declared.groups.Group.{Group}
use Rattle.run_model.specs.declared.tasks.Task.{Task}
use Rattle.run_model.specs.declared.tasks.Stage.TheVariants as stage
use Rattle.run_model.specs.declared.answers.Answer.TheVariants as answer
use Rattle.run_model.specs.declared.answers.Reply.TheVariants as reply
use Rattle.run_model.specs.declared.answers.Started.{Started}
use Rattle.run_model.specs.declared.commands.Command.TheVariants as command
use Rattle.run_model.specs.declared.commands.Step.TheVariants as step
use Rattle.run_model.specs.declared.refusals.Refusal.{Refusal}
use Rattle.run_model.specs.declared.refusals.Refusal.TheVariants as refusal
use Rattle.run_model.specs.Event as event
use Rattle.run_model.specs.Step as change
use Rattle.run_model.specs.Replies.{is_task_done, has_waited}
use Rattle.model_laws.specs.Answers.{Replied, Answered, SeesStart, SeesWait}
use Rattle.model_laws.proofs.Answering.{carried_out, repeated_out, room_made, decided_state}
use Rattle.model_laws.proofs.Names.{named_group}
use Rattle.model_laws.proofs.Passing.{and_then_Ok}
use Rattle.model_laws.proofs.Places.{changed_row}
use Rattle.model_laws.proofs.Seeing.{group_waited, group_reported, task_found}
use Rattle.model_laws.proofs.StartingReplies.{ok_or_Ok, start_first}
use Rattle.model_laws.proofs.Tests.{passing}

-- ---- waits

error_of_row : (o : Option Group) (row : Group) (error : Option (List ℕ)) → o ≡ Some row
    → answer.Waited (option_and_then (λ row. row.error) o) ≡ answer.Waited error
    → row.error ≡ error
error_of_row None row error found e = absurd (none-some row found)
error_of_row (Some other) row error found e =
    ap (λ (r : Group). r.error) (sym (same_Some other row found)) ∙ cc

waited_seen_row : (q : State) (g : ℕ) (row : Group) (error : Option (List ℕ))
    → slice_get q.work.groups g ≡ Some row → row.waited ≡ true
    → answer.Waited (option_and_then (λ row. row.error) (slice_get q.work.groups g))
    ≡ answer.Waited error
    → SeesWait q g error
waited_seen_row q g row error found waited e =
    let reported = error_of_row (slice_get q.work.groups g) row error found e in
    record {
      waited = group_waited q g row found ∙ ap (λ (b : Bool). Some b) waited;
      reported = group_reported q g row found ∙ ap (λ (o : Option (List ℕ)). Some o) reported;
    }

again_seen : (s : Session) (group : List ℕ) (error : Option (List ℕ)) (q : State)
    → has_waited s.state.work (group_of s.state group) ≡ true
    → Answered s (command.Wait group) (answer.Waited error) q
    → SeesWait q (group_of s.state group) error
again_seen s group error q waited answered =
    let g : ℕ = group_of s.state group in
    let same = repeated_out s (command.Wait group) (answer.Waited error) q waited answered in
    let row = passing (λ group. group.waited) (slice_get s.state.work.groups g) waited in
    let found = ap (λ (t : State). slice_get t.work.groups g) same.0 ∙ row.1 in
    waited_seen_row q g row.0 error found row.2 same.1

first_seen : (s : Session) (group : List ℕ) (error : Option (List ℕ)) (q : State)
    → has_waited s.state.work (group_of s.state group) ≡ false
    → Answered s (command.Wait group) (answer.Waited error) q
    → SeesWait q (group_of s.state group) error
first_seen s group error q new answered =
    let g : ℕ = group_of s.state group in
    let rows : List Group = s.state.work.groups in
    let done = carried_out s (command.Wait group) (answer.Waited error) q new answered in
    let row = named_group s.state group (is_first _ _ done.may) in
    let changed = ap (λ (t : State). t.work.groups) done.leaves in
    let found = changed_row with_wait g rows q.work.groups row.0 changed row.1 in
    waited_seen_row q g (with_wait row.0) error found refl done.answer

pub waited_seen : (s : Session) (group : List ℕ) (error : Option (List ℕ)) (q : State)
    → Answered s (command.Wait group) (answer.Waited error) q
    → SeesWait q (group_of s.state group) error
waited_seen s group error q answered = go (has_waited s.state.work (group_of s.state group)) refl
  where
    go : (repeated : Bool) → has_waited s.state.work (group_of s.state group) ≡ repeated
        → SeesWait q (group_of s.state group) error
    go true waited = again_seen s group error q waited answered
    go false new = first_seen s group error q new answered

-- ---- starts

-- What the start of task n is answered, by the row of the task.
abbrev start_reported : State → ℕ → Task → Started
start_reported p n row = record {
  event = p.count + 1;
  info = record { task = n; job = row.job; argument = row.argument };
  done = is_task_done p row;
}

reported_row : (p : State) (n : ℕ) (o : Option Task) (started : Started)
    → option_map (start_reported p n) o ≡ Some started
    → (row : Task) × (o ≡ Some row) × (start_reported p n row ≡ started)
reported_row p n None started e = absurd (none-some started e)
reported_row p n (Some row) started e = (row, refl, same_Some (start_reported p n row) started e)

accepted_start : (r : Result Started Refusal) (started : Started)
    → replied reply.Started r ≡ reply.Started started → r ≡ Ok started
accepted_start (Ok x) started e = cc
accepted_start (Err why) started e = cc

-- The answer, and the task whose row it shows.
pub record Begins (p : State) (started : Started) (n : ℕ) : Type 0 where
  pub row : Task
  pub found : slice_get p.work.tasks n ≡ Some row
  pub reported : start_reported p n row ≡ started

begins : (p : State) (started : Started) (n : ℕ) → first_ready p.work ≡ Some n
    → ok_or (option_and_then (started_of p) (first_ready p.work)) refusal.NothingReady ≡ Ok started
    → Begins p started n
begins p started n first e =
    let answer = option_and_then (started_of p) (first_ready p.work) in
    let known = ok_or_Ok answer refusal.NothingReady started e in
    let reported = sym (ap (option_and_then (started_of p)) first) ∙ known in
    let row = reported_row p n (slice_get p.work.tasks n) started reported in
    record { row = row.0; found = row.1; reported = row.2 }

-- The first ready task is started, and the answer shows its row.
pub record Starts (s : Session) (started : Started) (q : State) : Type 0 where
  pub task : ℕ
  pub begun : Begins s.state started task
  pub leaves : q ≡ change.step s.state (event.Start task)

starts : (s : Session) (started : Started) (q : State)
    → Replied s step.Start (reply.Started started) q → Starts s started q
starts s started q answered =
    let p : State = s.state in
    let accepted = accepted_start (reply_start p s.log) started answered.replied in
    let outer = and_then_Ok (decide_start p s.log) _ started accepted in
    let inner = start_first p s.log outer.0 outer.1 in
    let made = room_made p s.log (event.Start inner.0) outer.0 inner.2 in
    let left = decided_state s (decide_start p s.log) outer.0 outer.1 in
    record {
      task = inner.0;
      begun = begins p started inner.0 inner.1 outer.2;
      leaves = sym answered.leaves ∙ left ∙ ap (state_after p) made;
    }

pub started_seen : (s : Session) (started : Started) (q : State)
    → Replied s step.Start (reply.Started started) q → SeesStart q started
started_seen s started q answered =
    let known = starts s started q answered in
    let n : ℕ = known.task in
    let change : Task → Task = with_stage stage.Running in
    let changed = ap (λ (t : State). t.work.tasks) known.leaves in
    let begun = known.begun in
    let rows : List Task = s.state.work.tasks in
    let found = changed_row change n rows q.work.tasks begun.row changed begun.found in
    let seen = task_found q n (change begun.row) found in
    subst (SeesStart q) begun.reported (record {
      running = ap (option_map (λ look. look.phase)) seen;
      job = ap (option_map (λ look. look.job)) seen;
      argument = ap (option_map (λ look. look.argument)) seen;
      event = ap (λ (t : State). t.count) known.leaves;
    })
