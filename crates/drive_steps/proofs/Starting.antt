-- The start after a submission starts the task that was submitted.
use Rattle.std.proofs.Common.{◌≡◌, ◌≢◌, ◌<◌, ◌∙◌, ◌&&◌, ℕ, ◌+◌, Bool, true, false, cond, List, []}
use Rattle.std.proofs.Common.{◌∷◌}
use Rattle.std.proofs.Common.{◌++◌, Option, Some, None, Result, Ok, Err, length, slice_get}
use Rattle.std.proofs.Common.{ap, refl, sym, inl, inr, arith}
use Rattle.std.proofs.Common.{length-append}
use Rattle.std.proofs.lemmas.Bool.{cases_eq, cases_lt}
use Rattle.std.proofs.lemmas.Option.{same_Some, slice_get_past}
use Rattle.std.specs.Option.{option_and_then, option_map, option_map_or}
use Rattle.run_model.proofs.Common.{and_parts, unless_Ok}
use Rattle.run_model.proofs.RowLemmas.{length-at_row, slice_get-at_row_other}
use Rattle.run_model.proofs.RowLemmas.{slice_get-at_row_same}
use Rattle.run_model.specs.Allowed.{refusals}
use Rattle.run_model.specs.declared.answers.Answer.{Answer}
use Rattle.run_model.specs.declared.answers.Reply.TheVariants as reply
use Rattle.run_model.specs.declared.answers.Started.{Started}
use Rattle.run_model.specs.declared.commands.Command.{Command as Call}
use Rattle.run_model.specs.declared.commands.Step.TheVariants as step
use Rattle.run_model.specs.declared.refusals.Refusal.{Refusal}
use Rattle.run_model.specs.declared.refusals.Refusal.TheVariants as refusal
use Rattle.run_model.specs.declared.tasks.Stage.TheVariants as stage
use Rattle.run_model.specs.declared.tasks.Task.{Task}
use Rattle.run_model.specs.Event.{Event}
use Rattle.run_model.specs.Event as event
use Rattle.run_model.specs.Replies.{decide, decide_start, decided, if_room, is_full}
use Rattle.run_model.specs.Replies.{reply as result_of}
use Rattle.run_model.specs.Replies.{is_task_done, reply_start, started_of}
use Rattle.run_model.specs.Session.{Session, replied, reply_of_step}
use Rattle.run_model.specs.State.{State}
use Rattle.run_model.specs.Step as change
use Rattle.run_model.specs.Tasks.{first_ready, has_stage, is_admitted, is_fresh, is_ready}
use Rattle.run_model.specs.WorkChanges.{with_stage}
use Rattle.model_laws.proofs.Passing.{and_then_Ok, new_decide}
use Rattle.model_laws.proofs.StartingReplies.{ok_or_Ok, start_first}
use Rattle.night_plan.proofs.Rows.{get_push_last, get_push_old}
use Rattle.drive_steps.specs.Reported.{is_answer, task_in}
use Rattle.drive_steps.proofs.Going.{Goes, goes_by, groups_same, scopes_same}
use Rattle.drive_steps.proofs.Submitting.{Submits}

-- ---- what the replies say

room_makes : (full : Bool) (made : Event) (o : Option Event)
    → cond full (Err refusal.SessionFull) (Ok (Some made)) ≡ Ok o → o ≡ Some made
room_makes true made o e = cc
room_makes false made o e = cc

answered : (r : Result Answer Refusal) → is_answer (replied reply.Answer r) ≡ true
    → (answer : Answer) × (r ≡ Ok answer)
answered (Ok answer) e = (answer, refl)
answered (Err why) e = cc

named : (r : Result Started Refusal) (task : ℕ) → task_in (replied reply.Started r) ≡ Some task
    → (started : Started) × (r ≡ Ok started) × (started.info.task ≡ task)
named (Ok started) task e = (started, refl, cc)
named (Err why) task e = cc

-- The call was accepted, and this is its event.
pub submitted : (s : Session) (night : Option (List ℕ)) (group key : List ℕ) (asked : Call)
    (made : Event) → Submits s.state night group key asked made
    → is_answer (reply_of_step s (step.Command asked)) ≡ true
    → decide s.state s.log asked ≡ Ok (Some made)
submitted s night group key asked made it accepted =
    let answer = answered (result_of s.state s.log asked) accepted in
    let parts = and_then_Ok (decide s.state s.log asked) _ answer.0 answer.1 in
    let known : decide s.state s.log asked ≡ decided s.state s.log made =
    new_decide s.state s.log asked it.new ∙ ap (decided s.state s.log) it.asks in
    let passed = unless_Ok (refusals s.state made) (if_room s.state s.log made) parts.0
    (sym known ∙ parts.1) in
    parts.1 ∙ ap Ok (room_makes (is_full s.state s.log made) made parts.0 passed.1)

-- Task n was started: it was the first one that was ready.
pub record Starts (s : Session) (n : ℕ) : Type 0 where
  pub decided : decide_start s.state s.log ≡ Ok (Some (event.Start n))
  pub first : first_ready s.state.work ≡ Some n

-- The answer to the start of a task.
abbrev started_by : State → ℕ → Task → Started
started_by p n task = record {
  event = p.count + 1;
  info = record { task = n; job = task.job; argument = task.argument };
  done = is_task_done p task;
}

task_of : (p : State) (n : ℕ) (started : Started) → started_of p n ≡ Some started
    → started.info.task ≡ n
task_of p n started e = by_row (slice_get p.work.tasks n) e
  where
    by_row : (o : Option Task) → option_map (started_by p n) o ≡ Some started
        → started.info.task ≡ n
    by_row None e = cc
    by_row (Some task) e =
        sym (ap (λ (x : Started). x.info.task) (same_Some (started_by p n task) started e))

pub starts : (s : Session) (task : ℕ)
    → task_in (reply_of_step s step.Start) ≡ Some task → Starts s task
starts s task e =
    let started = named (reply_start s.state s.log) task e in
    let parts = and_then_Ok (decide_start s.state s.log) _ started.0 started.1 in
    let first = start_first s.state s.log parts.0 parts.1 in
    let made = room_makes (is_full s.state s.log (event.Start first.0)) (event.Start first.0)
    parts.0 first.2 in
    let reported = ok_or_Ok (option_and_then (started_of s.state) (first_ready s.state.work))
    refusal.NothingReady started.0 parts.2 in
    let same : first.0 ≡ task =
    sym (task_of s.state first.0 started.0
    (sym (ap (option_and_then (started_of s.state)) first.1) ∙ reported)) ∙ started.2 in
    record {
      decided = parts.1 ∙ ap Ok made ∙ ap (λ (n : ℕ). Ok (Some (event.Start n))) same;
      first = first.1 ∙ ap (λ (n : ℕ). Some n) same;
    }

pub ready_fresh : (s : State) (n : ℕ) → is_ready s.work n ≡ true
    → has_stage is_fresh s.work n ≡ true
ready_fresh s n ready = by_row (slice_get s.work.tasks n) ready
  where
    by_row : (o : Option Task)
        → option_map_or (λ (task : Task). is_fresh task.stage && is_admitted s.work n task) o false
        ≡ true
        → option_map_or (λ (task : Task). is_fresh task.stage) o false ≡ true
    by_row None e = e
    by_row (Some task) e = (and_parts (is_fresh task.stage) (is_admitted s.work n task) e).0

-- ---- the only task that waits to be started

-- A row was added, and no other task waits to be started.
pub record Adds (q r : State) (row : Task) : Type 0 where
  pub tasks : r.work.tasks ≡ q.work.tasks ++ row ∷ []
  pub fresh : row.stage ≡ stage.Fresh
  pub others : (n : ℕ) → has_stage is_fresh q.work n ≡ false

pub added_last : (q r : State) (row : Task) → Adds q r row
    → slice_get r.work.tasks (length q.work.tasks) ≡ Some row
added_last q r row adds =
    ap (λ (tasks : List Task). slice_get tasks (length q.work.tasks)) adds.tasks
    ∙ get_push_last q.work.tasks row

pub added_old : (q r : State) (row : Task) → Adds q r row → (n : ℕ) → n < length q.work.tasks
    → slice_get r.work.tasks n ≡ slice_get q.work.tasks n
added_old q r row adds n below =
    ap (λ (tasks : List Task). slice_get tasks n) adds.tasks
    ∙ get_push_old q.work.tasks (row ∷ []) n below

pub added_length : (q r : State) (row : Task) → Adds q r row
    → length r.work.tasks ≡ length q.work.tasks + 1
added_length q r row adds = ap length adds.tasks ∙ simp length-append (omega arith)

pub only_fresh : (q r : State) (row : Task) → Adds q r row → (n : ℕ)
    → has_stage is_fresh r.work n ≡ true → n ≡ length q.work.tasks
only_fresh q r row adds n fresh = elim (cases_lt n (length q.work.tasks)) [
  | inl below ↦
      let old : has_stage is_fresh r.work n ≡ has_stage is_fresh q.work n =
      ap (λ o. option_map_or (λ (task : Task). is_fresh task.stage) o false)
      (added_old q r row adds n below) in
      let none : has_stage is_fresh q.work n ≡ false = adds.others n in
      cc
  | inr more ↦ elim (cases_eq n (length q.work.tasks)) [
    | inl same ↦ same
    | inr other ↦
        let none : slice_get r.work.tasks n ≡ None =
        slice_get_past r.work.tasks n
        (omega (arith, more, other, added_length q r row adds)) in
        let not_so : has_stage is_fresh r.work n ≡ false =
        ap (λ o. option_map_or (λ (task : Task). is_fresh task.stage) o false) none in
        cc
  ]
]

-- ---- after the start

pub started_row : (q r : State) (row : Task) → Adds q r row
    → slice_get (change.step r (event.Start (length q.work.tasks))).work.tasks (length q.work.tasks)
    ≡ Some (with_stage stage.Running row)
started_row q r row adds =
    slice_get-at_row_same (with_stage stage.Running) (length q.work.tasks) r.work.tasks
    ∙ ap (option_map (with_stage stage.Running)) (added_last q r row adds)

pub started_goes : (q r : State) (row : Task) → Adds q r row → r.tree ≡ q.tree
    → r.work.groups ≡ q.work.groups
    → Goes q (change.step r (event.Start (length q.work.tasks)))
started_goes q r row adds tree groups =
    let t : State = change.step r (event.Start (length q.work.tasks)) in
    goes_by q t (scopes_same q t tree) (groups_same q t groups) (ap length groups)
    (λ n below.
    slice_get-at_row_other (with_stage stage.Running) (length q.work.tasks) n r.work.tasks
    (λ same. omega (arith, below, same))
    ∙ added_old q r row adds n below)
    (omega (
      arith,
      added_length q r row adds,
      length-at_row (with_stage stage.Running) (length q.work.tasks) r.work.tasks,
    ))

pub started_length : (q r : State) (row : Task) → Adds q r row
    → length (change.step r (event.Start (length q.work.tasks))).work.tasks
    ≡ length q.work.tasks + 1
started_length q r row adds =
    length-at_row (with_stage stage.Running) (length q.work.tasks) r.work.tasks
    ∙ added_length q r row adds

pub none_fresh : (q r : State) (row : Task) → Adds q r row → (n : ℕ)
    → has_stage is_fresh (change.step r (event.Start (length q.work.tasks))).work n ≡ false
none_fresh q r row adds n = elim (cases_eq n (length q.work.tasks)) [
  | inl same ↦
      ap (λ (m : ℕ). has_stage is_fresh
      (change.step r (event.Start (length q.work.tasks))).work m) same
      ∙ ap (λ o. option_map_or (λ (task : Task). is_fresh task.stage) o false)
      (started_row q r row adds)
  | inr other ↦
      ap (λ o. option_map_or (λ (task : Task). is_fresh task.stage) o false)
      (slice_get-at_row_other (with_stage stage.Running) (length q.work.tasks) n r.work.tasks other)
      ∙ by_fresh (has_stage is_fresh r.work n) refl other
]
  where
    by_fresh : (b : Bool) → has_stage is_fresh r.work n ≡ b → n ≢ length q.work.tasks
        → has_stage is_fresh r.work n ≡ false
    by_fresh true is other = absurd (other (only_fresh q r row adds n is))
    by_fresh false is other = is
