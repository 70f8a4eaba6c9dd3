-- A row that fits has room.
use Rattle.std.proofs.Common.{◌≡◌, ◌≤◌, ◌∙◌, ◌||◌, ◌⊎◌, ◌+◌, ◌*◌, ℕ, zero, suc, not, Bool}
use Rattle.std.proofs.Common.{true, false, cond, List, [], ◌∷◌, ◌++◌, Option, Some, None}
use Rattle.std.proofs.Common.{Result, Ok, Err, length, slice_get, nat_le, ap, refl, sym, subst, inl}
use Rattle.std.proofs.Common.{inr}
use Rattle.std.proofs.Common.{arith, length-append}
use Rattle.std.proofs.lemmas.Bool.{le-ltb, leb-true, lt-ltb}
use Rattle.std.proofs.lemmas.List.Elements.{All-contains}
use Rattle.std.proofs.lemmas.List.Sums.{sum_by-cons}
use Rattle.std.specs.List.{All, list_any}
use Rattle.std.specs.Option.{ok_or, option_and_then, option_map_or}
use Rattle.std.specs.Prelude.{unwrap_or}
use Rattle.std.specs.Result.{result_unwrap_or}
use Rattle.run_model.proofs.Common.{and_parts}
use Rattle.run_model.proofs.Lengths.{record_len_is}
use Rattle.run_model.proofs.RowLemmas.{length-at_row}
use Rattle.run_model.specs.Allowed.{has_room}
use Rattle.run_model.specs.declared.answers.Reply.{Reply}
use Rattle.run_model.specs.declared.answers.Reply.TheVariants as reply
use Rattle.run_model.specs.declared.answers.Started.{Started}
use Rattle.run_model.specs.declared.bounds.TheConstants.{FINISH_ROOM, SESSION_LEN}
use Rattle.run_model.specs.declared.commands.Command.{Command as Call}
use Rattle.run_model.specs.declared.commands.Command.TheVariants as call
use Rattle.run_model.specs.declared.commands.Step.{Step}
use Rattle.run_model.specs.declared.commands.Step.TheVariants as step
use Rattle.run_model.specs.declared.refusals.Refusal.{Refusal}
use Rattle.run_model.specs.declared.refusals.Refusal.TheVariants as refusal
use Rattle.run_model.specs.declared.tasks.Stage.TheVariants as stage
use Rattle.run_model.specs.declared.tasks.Task.{Task}
use Rattle.run_model.specs.Event.{Event}
use Rattle.run_model.specs.Event as event
use Rattle.run_model.specs.Layouts.{most_tasks}
use Rattle.run_model.specs.Replies.{and_then, answer_of, decide, decide_start, event_of}
use Rattle.run_model.specs.Replies.{if_room, is_full, reserve, started_of, state_after}
use Rattle.run_model.specs.Rows.{at_row, new_task as new_row}
use Rattle.run_model.specs.Session.{Session, after_step, replied, replies}
use Rattle.run_model.specs.Session.{reply_of_step, with_event}
use Rattle.run_model.specs.Spelling.{record_len}
use Rattle.run_model.specs.State.{State}
use Rattle.run_model.specs.Step as change
use Rattle.run_model.specs.Tasks.{first_ready, is_running, running_count}
use Rattle.run_model.specs.WorkChanges.{retried_row, with_stage}
use Rattle.night_plan.specs.declared.commands.Command.{Command}
use Rattle.night_drive.specs.declared.names.Names.{Names}
use Rattle.night_drive.specs.Searches.{last_below}
use Rattle.night_drive.specs.Seen.{is_try}
use Rattle.task_group.proofs.Flaggings.{running_pushed}
use Rattle.drive_steps.specs.Fits.{RowsThatFitHaveRoom, is_for_room, wants_room}
use Rattle.drive_steps.specs.Rooms.{last_group}
use Rattle.drive_steps.specs.Starts.{can_retry, group_of, key_of, new_task, next_task}
use Rattle.drive_steps.specs.Starts.{next_try, row_of}
use Rattle.drive_steps.proofs.Surviving.{listed_at}

ok_same : (a b : Option Event) → ◌≡◌ {A = Result (Option Event) Refusal} (Ok a) (Ok b) → a ≡ b
ok_same a b is = cc

err_same : {X : Type 0} (a b : Refusal) → ◌≡◌ {A = Result X Refusal} (Err a) (Err b) → a ≡ b
err_same a b is = cc

-- ---- one step

-- A step wasn't refused for want of room. It has added at most this many tasks, bytes and running
-- tasks.
record Roomy (s t : Session) (r : Reply) (tasks bytes running : ℕ) : Type 0 where
  room : wants_room r ≡ false
  few : length t.state.work.tasks ≤ length s.state.work.tasks + tasks
  short : t.log ≤ s.log + bytes
  runs : running_count t.state.work.tasks ≤ running_count s.state.work.tasks + running
  layout : t.state.work.layout ≡ s.state.work.layout

-- The decision is this event, or a refusal that isn't for want of room.
abbrev DecidesWell : Result (Option Event) Refusal → Event → Type 0
DecidesWell r made = (r ≡ Ok (Some made)) ⊎ ((why : Refusal) × (r ≡ Err why)
    × (is_for_room why ≡ false))

one_test : (b : Bool) (why : Refusal) (rest : Result (Option Event) Refusal) (made : Event)
    → is_for_room why ≡ false → DecidesWell rest made → DecidesWell (cond b (Err why) rest) made
one_test true why rest made not well = inr (why, refl, not)
one_test false why rest made not well = well

no_test : (b : Bool) (why : Refusal) (rest : Result (Option Event) Refusal) (made : Event)
    → b ≡ false → DecidesWell rest made → DecidesWell (cond b (Err why) rest) made
no_test true why rest made not well = cc
no_test false why rest made not well = well

has_bytes : (p : State) (log : ℕ) (made : Event) → is_full p log made ≡ false
    → DecidesWell (if_room p log made) made
has_bytes p log made room = inl (ap (λ b. cond b (Err refusal.SessionFull) (Ok (Some made))) room)

-- ---- a submission

-- The call submits a task whose names are short.
abbrev IsShort : Call → Type 0
IsShort (call.Go group job argument) = (length job ≤ 2) × (length argument ≤ 32)
IsShort (call.Retry n) = Unit {0}
IsShort _ = ⊥

pushed_running : (p : State) (n : ℕ) (o : Option Task)
    → running_count (option_map_or (λ row. record p.work {
      tasks = p.work.tasks ++ retried_row n row ∷ [];
    }) o p.work).tasks ≡ running_count p.work.tasks
pushed_running p n None = refl
pushed_running p n (Some row) = running_pushed p.work.tasks row.group row.job row.argument (Some n)

pushed_tasks : (p : State) (n : ℕ) (o : Option Task)
    → length (option_map_or (λ row. record p.work {
      tasks = p.work.tasks ++ retried_row n row ∷ [];
    }) o p.work).tasks ≤ length p.work.tasks + 1
pushed_tasks p n None = omega arith
pushed_tasks p n (Some row) = omega (arith, length-append p.work.tasks (retried_row n row ∷ []))

pushed_layout : (p : State) (n : ℕ) (o : Option Task)
    → (option_map_or (λ row. record p.work {
      tasks = p.work.tasks ++ retried_row n row ∷ [];
    }) o p.work).layout ≡ p.work.layout
pushed_layout p n None = refl
pushed_layout p n (Some row) = refl

-- What an event that submits a task changes.
record Pushes (p : State) (made : Event) : Type 0 where
  few : length (change.step p made).work.tasks ≤ length p.work.tasks + 1
  short : record_len made ≤ 41
  runs : running_count (change.step p made).work.tasks ≡ running_count p.work.tasks
  layout : (change.step p made).work.layout ≡ p.work.layout

go_pushes : (p : State) (g : ℕ) (job argument : List ℕ) → length job ≤ 2
    → length argument ≤ 32 → Pushes p (event.Go g job argument)
go_pushes p g job argument one two = record {
  few = omega (arith, length-append p.work.tasks (new_row g job argument None ∷ []));
  short = omega (arith, record_len_is (event.Go g job argument), one, two);
  runs = running_pushed p.work.tasks g job argument None;
  layout = refl;
}

retry_pushes : (p : State) (n : ℕ) → Pushes p (event.Retry n)
retry_pushes p n = record {
  few = pushed_tasks p n (slice_get p.work.tasks n);
  short = omega (arith, record_len_is (event.Retry n));
  runs = pushed_running p n (slice_get p.work.tasks n);
  layout = pushed_layout p n (slice_get p.work.tasks n);
}

-- There is room for one more begin.
record Room (s : Session) : Type 0 where
  row : length s.state.work.tasks + 1 ≤ most_tasks s.state.work.layout
  bytes : s.log + 126 + 80 * running_count s.state.work.tasks ≤ 1048576

push_fits : (s : Session) (made : Event) → Room s → Pushes s.state made
    → is_full s.state s.log made ≡ false
push_fits s made room pushes =
    le-ltb SESSION_LEN
    (s.log + record_len made + FINISH_ROOM * running_count (change.step s.state made).work.tasks)
    (omega (arith, room.bytes, pushes.short, pushes.runs))

has_a_row : (s : Session) → Room s
    → not (has_room (most_tasks s.state.work.layout) s.state.work.tasks) ≡ false
has_a_row s room =
    ap not (lt-ltb (length s.state.work.tasks) (most_tasks s.state.work.layout)
    (omega (arith, room.row)))

decides_call : (s : Session) (asked : Call) → Room s → IsShort asked
    → DecidesWell (decide s.state s.log asked) (event_of s.state asked)
    × Pushes s.state (event_of s.state asked)
decides_call s (call.Go group job argument) room short =
    let p : State = s.state in
    let made : Event = event_of p (call.Go group job argument) in
    let pushes : Pushes p made = go_pushes p _ job argument short.0 short.1 in (
      one_test _ refusal.NoSuchGroup _ made refl
          (one_test _ refusal.Waited _ made refl
          (no_test _ refusal.TooManyTasks _ made (has_a_row s room)
          (has_bytes p s.log made (push_fits s made room pushes)))),
      pushes,
    )
decides_call s (call.Retry n) room short =
    let p : State = s.state in
    let made : Event = event.Retry n in
    let pushes : Pushes p made = retry_pushes p n in (
      one_test _ refusal.NoSuchTask _ made refl
          (one_test _ refusal.NotInterrupted _ made refl
          (one_test _ refusal.AlreadyRetried _ made refl
          (one_test _ refusal.Waited _ made refl
          (no_test _ refusal.TooManyTasks _ made (has_a_row s room)
          (has_bytes p s.log made (push_fits s made room pushes)))))),
      pushes,
    )
decides_call s (call.Derive name parent wish) room short = absurd short
decides_call s (call.Cancel scope cause) room short = absurd short
decides_call s (call.Advance moment) room short = absurd short
decides_call s (call.Group name parent) room short = absurd short
decides_call s (call.Bare name scope) room short = absurd short
decides_call s (call.SetLimit group limit) room short = absurd short
decides_call s (call.TryGo group job argument) room short = absurd short
decides_call s (call.Wait group) room short = absurd short

stays_roomy : (s : Session) (r : Reply) (tasks bytes running : ℕ) → wants_room r ≡ false
    → Roomy s s r tasks bytes running
stays_roomy s r tasks bytes running room = record {
  room = room;
  few = omega arith;
  short = omega arith;
  runs = omega arith;
  layout = refl;
}

submit_roomy : (s : Session) (asked : Call) → Room s → IsShort asked
    → Roomy s (after_step s (step.Command asked)) (reply_of_step s (step.Command asked)) 1 41 0
submit_roomy s asked room short =
    by_result (decide s.state s.log asked) (both.0)
  where
    both : DecidesWell (decide s.state s.log asked) (event_of s.state asked)
        × Pushes s.state (event_of s.state asked)
    both = decides_call s asked room short

    by_result : (r : Result (Option Event) Refusal) → DecidesWell r (event_of s.state asked)
        → Roomy s (with_event s (result_unwrap_or r None))
        (replied reply.Answer (and_then r (λ made. Ok (answer_of s.state
        (state_after s.state made) asked)))) 1 41 0
    by_result (Ok o) (inl is) =
        subst (λ (x : Option Event). Roomy s (with_event s x)
        (reply.Answer (answer_of s.state (state_after s.state x) asked)) 1 41 0)
        (sym (ok_same o (Some (event_of s.state asked)) is))
        (record {
          room = refl;
          few = both.1.few;
          short = omega (arith, both.1.short);
          runs = omega (arith, both.1.runs);
          layout = both.1.layout;
        })
    by_result (Ok o) (inr not) = cc (not.1)
    by_result (Err why) (inl is) = cc
    by_result (Err why) (inr not) =
        stays_roomy s (reply.Refused why) 1 41 0
        (ap is_for_room (err_same why not.0 not.1) ∙ not.2)

-- ---- a start

started_running : (n : ℕ) (tasks : List Task)
    → running_count (at_row (with_stage stage.Running) n tasks) ≤ running_count tasks + 1
started_running n [] = omega arith
started_running zero (x ∷ tasks) =
    let a = sum_by-cons (λ (t : Task). cond (is_running t.stage) 1 0)
    (with_stage stage.Running x) tasks in
    let b = sum_by-cons (λ (t : Task). cond (is_running t.stage) 1 0) x tasks in
    omega (arith, a, b)
started_running (suc n) (x ∷ tasks) =
    let a = sum_by-cons (λ (t : Task). cond (is_running t.stage) 1 0) x
    (at_row (with_stage stage.Running) n tasks) in
    let b = sum_by-cons (λ (t : Task). cond (is_running t.stage) 1 0) x tasks in
    omega (arith, a, b, started_running n tasks)

start_short : (n : ℕ) → record_len (event.Start n) ≤ 5
start_short n = omega (arith, record_len_is (event.Start n))

-- The start of task n, whichever that is.
start_fits : (s : Session) (n : ℕ)
    → s.log + 85 + 80 * running_count s.state.work.tasks ≤ 1048576
    → is_full s.state s.log (event.Start n) ≡ false
start_fits s n room =
    le-ltb SESSION_LEN
    (s.log + record_len (event.Start n)
    + FINISH_ROOM * running_count (at_row (with_stage stage.Running) n s.state.work.tasks))
    (omega (arith, room, start_short n, started_running n s.state.work.tasks))

is_no_want : (r : Result Started Refusal) → ((why : Refusal) → r ≡ Err why
    → is_for_room why ≡ false) → wants_room (replied reply.Started r) ≡ false
is_no_want (Ok started) not = refl
is_no_want (Err why) not = not why refl

none_ready : (o : Option Started) (why : Refusal) → ok_or o refusal.NothingReady ≡ Err why
    → is_for_room why ≡ false
none_ready None why is = ap is_for_room (sym (err_same refusal.NothingReady why is))
none_ready (Some started) why is = cc

start_roomy : (s : Session) → s.log + 85 + 80 * running_count s.state.work.tasks ≤ 1048576
    → Roomy s (after_step s step.Start) (reply_of_step s step.Start) 0 5 1
start_roomy s room = by_result (decide_start s.state s.log) decides
  where
    n : ℕ
    n = unwrap_or (first_ready s.state.work) (length s.state.work.tasks)

    decides : DecidesWell (decide_start s.state s.log) (event.Start n)
    decides =
        one_test _ refusal.NothingReady _ (event.Start n) refl
        (has_bytes s.state s.log (event.Start n) (start_fits s n room))

    by_result : (r : Result (Option Event) Refusal) → DecidesWell r (event.Start n)
        → Roomy s (with_event s (result_unwrap_or r None))
        (replied reply.Started (and_then r (λ made. ok_or
        (option_and_then (started_of s.state) (first_ready s.state.work)) refusal.NothingReady)))
        0 5 1
    by_result (Ok o) (inl is) =
        subst (λ (x : Option Event). Roomy s (with_event s x)
        (replied reply.Started (ok_or
        (option_and_then (started_of s.state) (first_ready s.state.work)) refusal.NothingReady))
        0 5 1)
        (sym (ok_same o (Some (event.Start n)) is))
        (record {
          room = is_no_want _ (λ why same. none_ready
              (option_and_then (started_of s.state) (first_ready s.state.work)) why same);
          few = omega (arith, length-at_row (with_stage stage.Running) n s.state.work.tasks);
          short = omega (arith, start_short n);
          runs = started_running n s.state.work.tasks;
          layout = refl;
        })
    by_result (Ok o) (inr not) = cc (not.1)
    by_result (Err why) (inl is) = cc
    by_result (Err why) (inr not) =
        stays_roomy s (reply.Refused why) 0 5 1
        (ap is_for_room (err_same why not.0 not.1) ∙ not.2)

-- ---- a row

key_short : (names : Names) (c : ℕ) → All (λ (key : List ℕ). length key ≤ 32) names.keys.items
    → length (key_of names c) ≤ 32
key_short names c all = by_key (slice_get names.keys.items c) refl
  where
    by_key : (o : Option (List ℕ)) → slice_get names.keys.items c ≡ o
        → length (unwrap_or o []) ≤ 32
    by_key None at = omega arith
    by_key (Some key) at =
        All-contains (λ (x : List ℕ). length x ≤ 32) names.keys.items key all
        (listed_at names.keys.items c key at)

short_next : (p : State) (names : Names) (commands : List Command) (c : ℕ)
    → All (λ (key : List ℕ). length key ≤ 32) names.keys.items
    → IsShort (next_try p names commands c)
short_next p names commands c all =
    by_try (unwrap_or (last_group p names.night (group_of names commands c)) 0) (key_of names c)
    (last_below (is_try p names.night (group_of names commands c) (key_of names c))
    (length p.work.tasks)) (key_short names c all)
  where
    by_can : (b : Bool) (n g : ℕ) (key : List ℕ) → length key ≤ 32
        → IsShort (cond b (call.Retry n) (new_task p g key))
    by_can true n g key short = tt
    by_can false n g key short = (omega arith, short)

    by_try : (g : ℕ) (key : List ℕ) (o : Option ℕ) → length key ≤ 32
        → IsShort (next_task p g key o)
    by_try g key None short = (omega arith, short)
    by_try g key (Some n) short = by_can (can_retry p g n) n g key short

rows_fit : (chosen : List ℕ) (p : State) (names : Names) (commands : List Command) (s : Session)
    → All (λ (key : List ℕ). length key ≤ 32) names.keys.items
    → length s.state.work.tasks + length chosen ≤ most_tasks s.state.work.layout
    → s.log + 126 * length chosen + 80 * running_count s.state.work.tasks ≤ 1048576
    → list_any wants_room (replies s (row_of p names commands chosen)) ≡ false
rows_fit [] p names commands s all row bytes = refl
rows_fit (c ∷ chosen) p names commands s all row bytes =
    let x : Step = step.Command (next_try p names commands c) in
    let s1 : Session = after_step s x in
    let s2 : Session = after_step s1 step.Start in
    let more : length (c ∷ chosen) ≡ length chosen + 1 = omega arith in
    let room : Room s = record {
      row = omega (arith, row, more);
      bytes = omega (arith, bytes, more);
    } in
    let first = submit_roomy s (next_try p names commands c) room
    (short_next p names commands c all) in
    let second = start_roomy s1
    (omega (arith, room.bytes, first.short, first.runs)) in
    let rest : List Reply = replies s2 (row_of p names commands chosen) in
    ap (λ b. b || (wants_room (reply_of_step s1 step.Start) || list_any wants_room rest)) first.room
    ∙ ap (λ b. b || list_any wants_room rest) second.room
    ∙ rows_fit chosen p names commands s2 all
    (omega (
      arith,
      row,
      more,
      first.few,
      second.few,
      ap most_tasks first.layout,
      ap most_tasks second.layout,
    ))
    (omega (arith, bytes, more, first.short, second.short, first.runs, second.runs))

pub rows_that_fit : RowsThatFitHaveRoom
rows_that_fit s names commands chosen all fit =
    let parts = and_parts
    (nat_le (length s.state.work.tasks + length chosen) (most_tasks s.state.work.layout))
    (nat_le (s.log + 126 * length chosen + reserve s.state) SESSION_LEN) fit in
    let row : length s.state.work.tasks + length chosen ≤ most_tasks s.state.work.layout =
    leb-true _ _ parts.0 in
    let bytes : s.log + 126 * length chosen + 80 * running_count s.state.work.tasks ≤ 1048576 =
    leb-true _ _ parts.1 in
    rows_fit chosen s.state names commands s all row bytes
