-- A row of steps is played: each command begins, one after another.
use Rattle.std.proofs.Common.{◌≡◌, ◌<◌, ◌≤◌, ◌∙◌, ◌&&◌, ◌||◌, ℕ, zero, suc, ◌+◌, Bool, true, false}
use Rattle.std.proofs.Common.{cond, List, [], ◌∷◌, Option, Some, None, IsSome, length, map}
use Rattle.std.proofs.Common.{slice_get}
use Rattle.std.proofs.Common.{ap, refl, sym, subst, arith}
use Rattle.std.specs.List.{All, AllByRecursion, Contains, cons_option, list_any}
use Rattle.std.specs.Option.{option_and_then, option_map, option_map_or}
use Rattle.std.specs.Str.{bytes_eq}
use Rattle.std.specs.Result.{result_unwrap_or}
use Rattle.std.specs.Prelude.{unwrap_or}
use Rattle.std.proofs.Math.Bool.{or-true}
use Rattle.std.proofs.lemmas.List.Elements.{All-from_recursion, recursion_from_All}
use Rattle.std.proofs.lemmas.Option.{none-some, same_Some, slice_get-map, slice_get_past}
use Rattle.std.proofs.lemmas.Bool.{cases_lt, eqb-true}
use Rattle.std.proofs.Common.{◌⊎◌, ◌-◌, ◌==◌, inl, inr}
use Rattle.night_drive.proofs.Turning.{try_is}
use Rattle.run_model.specs.Allowed.{after, allowed}
use Rattle.run_model.specs.declared.answers.Reply.{Reply}
use Rattle.run_model.specs.declared.commands.Step.{Step}
use Rattle.run_model.specs.declared.commands.Step.TheVariants as step
use Rattle.run_model.specs.declared.tasks.Task.{Task}
use Rattle.run_model.specs.Event.{Event}
use Rattle.run_model.specs.Event as event
use Rattle.run_model.specs.Rules.{IsConsistent}
use Rattle.run_model.specs.Session.{Session, accepted, acknowledged, after_step, event_of_step}
use Rattle.run_model.specs.Session.{is_ack}
use Rattle.run_model.specs.Session.{replies, reply_of_step, session_after, up_to_last_ack}
use Rattle.run_model.specs.Session.{with_event}
use Rattle.run_model.specs.State.{State}
use Rattle.run_model.specs.Step as change
use Rattle.run_model.specs.Tasks.{has_stage, is_fresh, is_running}
use Rattle.model_laws.proofs.Allowing.{decided_allowed}
use Rattle.model_laws.proofs.StartingReplies.{start_allowed}
use Rattle.model_laws.proofs.Searching.{first_is_least}
use Rattle.model_laws.proofs.StateSteps.{event_keeps}
use Rattle.night_plan.proofs.Rows.{row_at}
use Rattle.night_plan.specs.declared.commands.Command.{Command}
use Rattle.night_plan.specs.declared.commands.Plan.{Plan}
use Rattle.night_plan.specs.Turns.{after as after_turn, Begin}
use Rattle.night_drive.specs.declared.ends.Ends.{Ends}
use Rattle.night_drive.specs.declared.names.Names.{Names}
use Rattle.night_drive.specs.Distinct.{AreDistinct}
use Rattle.night_drive.specs.PlanTurns.{IsOfCommand, night_in}
use Rattle.night_drive.specs.Seen.{AreNames, IsCalled, is_owned, is_try}
use Rattle.night_drive.specs.Tries.{counts}
use Rattle.night_drive.specs.Turns.{is_task}
use Rattle.night_drive.proofs.Parting.{tasks_part}
use Rattle.night_drive.proofs.Playing.{begins_join, others_are_no_turns, rows_are_one_turn}
use Rattle.night_drive.proofs.Playing.{starts_are_turns}
use Rattle.drive_steps.specs.declared.reported.Begun.{Begun}
use Rattle.drive_steps.specs.Rooms.{last_group}
use Rattle.drive_steps.specs.Rows.{IsRight, RowsBeginAll, TasksAreReportedOnce, Reports}
use Rattle.drive_steps.specs.Rows.{ReportsAcknowledged, ReportsLastTries}
use Rattle.drive_steps.specs.Starts.{group_of, key_of, next_try, row_of}
use Rattle.drive_steps.specs.Reported.{begins_reported, is_answer, task_in}
use Rattle.drive_steps.proofs.Going.{Came, Goes, came_nowhere, came_on, goes_by, goes_nowhere}
use Rattle.drive_steps.proofs.Going.{groups_same, scopes_same}
use Rattle.drive_steps.proofs.Going.{goes_on, housed_goes, owned_goes, row_is}
use Rattle.drive_steps.proofs.Going.{stage_goes}
use Rattle.drive_steps.proofs.Going.{task_goes}
use Rattle.drive_steps.proofs.Starting.{Adds, Starts, added_last, added_length, added_old}
use Rattle.drive_steps.proofs.Starting.{none_fresh}
use Rattle.drive_steps.proofs.Starting.{only_fresh, ready_fresh, started_goes, started_length}
use Rattle.drive_steps.proofs.Starting.{started_row, starts, submitted}
use Rattle.drive_steps.proofs.Naming.{housed_at}
use Rattle.drive_steps.proofs.Submitting.{Submission, Submits, next_submits}

-- ---- one command

-- Command c of the plan has a group and a key.
pub record Called (plan : Plan) (names : Names) (c : ℕ) : Type 0 where
  pub command : Command
  pub called : IsCalled names plan.commands.items c command (group_of names plan.commands.items c)
      (key_of names c)

pub call_of : (plan : Plan) (names : Names) → AreNames plan names → (c : ℕ)
    → c < length plan.commands.items → Called plan names c
call_of plan names are c less =
    let command = row_at plan.commands.items c less in
    let own : command.0.group < length plan.groups.items =
    plan.sound.own c command.0 command.1 in
    let group = row_at names.groups.items command.0.group (omega (arith, own, are.groups)) in
    let key = row_at names.keys.items c (omega (arith, less, are.keys)) in
    let in_group : group_of names plan.commands.items c ≡ group.0 =
    ap (λ (o : Option Command). option_map_or (λ (x : Command).
    unwrap_or (slice_get names.groups.items x.group) []) o []) command.1
    ∙ ap (λ (o : Option (List ℕ)). unwrap_or o []) group.1 in
    let keyed : key_of names c ≡ key.0 = ap (λ (o : Option (List ℕ)). unwrap_or o []) key.1 in
    record {
      command = command.0;
      called = record {
        is = command.1;
        group_is = group.1 ∙ ap (λ (x : List ℕ). Some x) (sym in_group);
        key_is = key.1 ∙ ap (λ (x : List ℕ). Some x) (sym keyed);
      };
    }

-- The plan and its names fit the state at which the row was made.
pub record Fits (p : State) (plan : Plan) (names : Names) : Type 0 where
  pub named : AreNames plan names
  pub distinct : AreDistinct plan names
  pub housed : (g : ℕ) (group : List ℕ) → slice_get names.groups.items g ≡ Some group
      → IsSome (last_group p names.night group)

-- The session has come from that state, and no task waits to be started.
pub record Ready (p : State) (s : Session) : Type 0 where
  pub came : Came p s.state
  pub consistent : IsConsistent s.state
  pub none : (n : ℕ) → has_stage is_fresh s.state.work n ≡ false

-- From the first session to the second one command c has begun, with task n.
pub record One (p : State) (plan : Plan) (names : Names) (s t : Session) (c n : ℕ) : Type 0 where
  pub ready : Ready p t
  pub goes : Goes s.state t.state
  pub turn : (ends : Ends) (now : ℕ) (sizes : List ℕ)
      → night_in t.state ends plan names
      ≡ after_turn (night_in s.state ends plan names) (Begin now sizes (c ∷ []))
  pub runs : has_stage is_running t.state.work n ≡ true
  pub own : is_task t.state names.night (group_of names plan.commands.items c) (key_of names c) n
      ≡ true
  pub number : n ≡ length s.state.work.tasks
  pub more : length t.state.work.tasks ≡ length s.state.work.tasks + 1

pub led : (p : State) (made : Event) → allowed p made ≡ true
    → after p made ≡ Some (change.step p made)
led p made may = ap (λ (b : Bool). cond b (Some (change.step p made)) None) may

pub past_is_no_try : (r : State) (night : Option (List ℕ)) (group key : List ℕ) (n : ℕ)
    → length r.work.tasks ≡ n → (m : ℕ) → n ≤ m → is_try r night group key m ≡ false
past_is_no_try r night group key n sized m more =
    ap (λ (o : Option Task). option_map_or (λ (task : Task). bytes_eq task.argument key
    && (counts task.stage && is_owned r night group task.group)) o false)
    (slice_get_past r.work.tasks m (omega (arith, more, sized)))

-- It is so after both events.
one_of : (p : State) (plan : Plan) (names : Names) → Fits p plan names → (s : Session)
    → Ready p s → (c : ℕ) → c < length plan.commands.items → (made : Event)
    → Submits s.state names.night (group_of names plan.commands.items c) (key_of names c)
    (next_try p names plan.commands.items c) made
    → allowed s.state made ≡ true
    → allowed (change.step s.state made) (event.Start (length s.state.work.tasks)) ≡ true
    → One p plan names s
    (with_event (with_event s (Some made)) (Some (event.Start (length s.state.work.tasks)))) c
    (length s.state.work.tasks)
one_of p plan names fits s ready c less made submits may starting =
    let commands = plan.commands.items in
    let q : State = s.state in
    let r : State = change.step q made in
    let n : ℕ = length q.work.tasks in
    let t : State = change.step r (event.Start n) in
    let night = names.night in
    let group : List ℕ = group_of names commands c in
    let key : List ℕ = key_of names c in
    let it = call_of plan names fits.named c less in
    let row : Task = submits.row in
    let adds : Adds q r row =
    record { tasks = submits.tasks; fresh = submits.fresh; others = ready.none } in
    let last : slice_get r.work.tasks n ≡ Some row = added_last q r row adds in
    let along : Goes q t = started_goes q r row adds submits.tree submits.groups in
    let at_once : Goes q r =
    goes_by q r (scopes_same q r submits.tree) (groups_same q r submits.groups)
    (ap length submits.groups) (λ m below. added_old q r row adds m below)
    (omega (arith, added_length q r row adds)) in
    let consistent : IsConsistent r = event_keeps q r made ready.consistent (led q made may) in
    let fresh : has_stage is_fresh r.work n ≡ true =
    ap (λ (o : Option Task). option_map_or (λ (task : Task). is_fresh task.stage) o false) last
    ∙ ap is_fresh submits.fresh in
    let own : is_task r night group key n ≡ true =
    ap (λ (o : Option Task). option_map_or (row_is r night group key) o false) last
    ∙ ap (λ b. bytes_eq row.argument key && b) (owned_goes q r at_once.came night group row.group)
    ∙ submits.own in
    let of : IsOfCommand r names commands n c = record {
      only = λ d other g k called.
          tasks_part r plan names n c it.command group key fits.distinct it.called own d other g k
          called;
      last = λ d other g k called its m after.
          past_is_no_try r night g k (n + 1) (added_length q r row adds) m (omega (arith, after));
    } in
    record {
      ready = record {
        came = came_on p q t ready.came along.came;
        consistent = event_keeps r t (event.Start n) consistent (led r (event.Start n) starting);
        none = none_fresh q r row adds;
      };
      goes = along;
      turn = λ ends now sizes.
          starts_are_turns r ends plan names n c now sizes fits.named fresh of
          ∙ ap (λ x. after_turn x (Begin now sizes (c ∷ [])))
          (others_are_no_turns q made ends plan names fits.named ready.consistent.numbered
          submits.tree submits.no_start submits.no_finish submits.no_restart);
      runs =
          ap (λ (o : Option Task). option_map_or (λ (task : Task). is_running task.stage) o false)
          (started_row q r row adds);
      own = ap (λ (o : Option Task). option_map_or (row_is t night group key) o false)
          (started_row q r row adds)
          ∙ ap (λ b. bytes_eq row.argument key && b)
          (owned_goes q t along.came night group row.group)
          ∙ submits.own;
      number = refl;
      more = started_length q r row adds;
    }

-- By the replies to its two steps a command has begun.
pub record Begins (p : State) (plan : Plan) (names : Names) (s : Session) (c n : ℕ) : Type 0 where
  pub one : One p plan names s
      (after_step (after_step s (step.Command (next_try p names plan.commands.items c))) step.Start)
      c n
  pub made : Event
  pub first : event_of_step s (step.Command (next_try p names plan.commands.items c)) ≡ Some made
  pub second : event_of_step
      (after_step s (step.Command (next_try p names plan.commands.items c))) step.Start
      ≡ Some (event.Start n)

pub begins : (p : State) (plan : Plan) (names : Names) → Fits p plan names → (s : Session)
    → Ready p s → (c : ℕ) → c < length plan.commands.items → (n : ℕ)
    → is_answer (reply_of_step s (step.Command (next_try p names plan.commands.items c))) ≡ true
    → task_in (reply_of_step
    (after_step s (step.Command (next_try p names plan.commands.items c))) step.Start) ≡ Some n
    → Begins p plan names s c n
begins p plan names fits s ready c less n accepted reported =
    let q : State = s.state in
    let asked = next_try p names plan.commands.items c in
    let it = call_of plan names fits.named c less in
    let group : List ℕ = group_of names plan.commands.items c in
    let key : List ℕ = key_of names c in
    let sub : Submission q names.night group key asked =
    next_submits p q ready.came ready.consistent.numbered names.night group key
    (fits.housed it.command.group group it.called.group_is) in
    let made : Event = sub.made in
    let decided = submitted s names.night group key asked made sub.submits accepted in
    let first : event_of_step s (step.Command asked) ≡ Some made =
    ap (λ r. result_unwrap_or r None) decided in
    let s1 : Session = with_event s (Some made) in
    let r : State = change.step q made in
    let to_s1 : after_step s (step.Command asked) ≡ s1 = ap (with_event s) first in
    let begun : Starts s1 n =
    starts s1 n
    (sym (ap (λ (x : Session). task_in (reply_of_step x step.Start)) to_s1) ∙ reported) in
    let adds : Adds q r sub.submits.row =
    record { tasks = sub.submits.tasks; fresh = sub.submits.fresh; others = ready.none } in
    let number : n ≡ length q.work.tasks =
    only_fresh q r sub.submits.row adds n
    (ready_fresh r n (first_is_least r.work n begun.first).ready) in
    let may : allowed q made ≡ true = decided_allowed q s.log asked made decided in
    let starting : allowed r (event.Start (length q.work.tasks)) ≡ true =
    sym (ap (λ (m : ℕ). allowed r (event.Start m)) number)
    ∙ start_allowed r s1.log (event.Start n) begun.decided in
    let next : event_of_step s1 step.Start ≡ Some (event.Start n) =
    ap (λ x. result_unwrap_or x None) begun.decided in
    let s2 : Session = with_event s1 (Some (event.Start (length q.work.tasks))) in
    let to_s2 : after_step (after_step s (step.Command asked)) step.Start ≡ s2 =
    ap (λ (x : Session). after_step x step.Start) to_s1 ∙ ap (with_event s1) next
    ∙ ap (λ (m : ℕ). with_event s1 (Some (event.Start m))) number in
    let here : One p plan names s s2 c (length q.work.tasks) =
    one_of p plan names fits s ready c less made sub.submits may starting in
    let there : One p plan names s s2 c n =
    subst (λ (m : ℕ). One p plan names s s2 c m) (sym number) here in
    record {
      one = subst (λ (x : Session). One p plan names s x c n) (sym to_s2) there;
      made = made;
      first = first;
      second = ap (λ (x : Session). event_of_step x step.Start) to_s1 ∙ next;
    }

-- ---- a row

-- The first two replies report one begin, and the others those of the rest.
record OneReported (first second : Reply) (rest : Option (List Begun)) (c : ℕ) (begun : List Begun)
    : Type 0 where
  answer : is_answer first ≡ true
  task : ℕ
  named : task_in second ≡ Some task
  others : List Begun
  reported : rest ≡ Some others
  all : begun ≡ record { command = c; task = task } ∷ others

one_reported : (first second : Reply) (rest : Option (List Begun)) (c : ℕ) (begun : List Begun)
    → option_and_then (λ task. option_map (λ others. record { command = c; task = task } ∷ others)
    rest) (cond (is_answer first) (task_in second) None) ≡ Some begun
    → OneReported first second rest c begun
one_reported first second rest c begun e =
    by_answer (is_answer first) (task_in second) rest refl refl refl e
  where
    by_answer : (b : Bool) (o : Option ℕ) (more : Option (List Begun)) → is_answer first ≡ b
        → task_in second ≡ o → rest ≡ more
        → option_and_then (λ task. option_map (λ others. record { command = c; task = task }
        ∷ others) more) (cond b o None) ≡ Some begun
        → OneReported first second rest c begun
    by_answer false o more is named reported e = cc
    by_answer true None more is named reported e = cc
    by_answer true (Some task) None is named reported e = cc
    by_answer true (Some task) (Some others) is named reported e = record {
      answer = is;
      task = task;
      named = named;
      others = others;
      reported = reported;
      all = sym (same_Some (record { command = c; task = task } ∷ others) begun e);
    }

-- These begins are reported of a row, and so each of its commands has begun.
pub record Played (plan : Plan) (names : Names) (s : Session) (row : List Step) (chosen : List ℕ)
    (begun : List Begun) : Type 0 where
  pub commands : map (λ (begin : Begun). begin.command) begun ≡ chosen
  pub goes : Goes s.state (session_after s row).state
  pub consistent : IsConsistent (session_after s row).state
  pub none : (n : ℕ) → has_stage is_fresh (session_after s row).state.work n ≡ false
  pub turn : (ends : Ends) (now : ℕ) (sizes : List ℕ)
      → night_in (session_after s row).state ends plan names
      ≡ after_turn (night_in s.state ends plan names) (Begin now sizes chosen)
  pub right : (i : ℕ) (begin : Begun) → slice_get begun i ≡ Some begin
      → IsRight (session_after s row).state names plan.commands.items begin
  pub listed : (i : ℕ) (begin : Begun) → slice_get begun i ≡ Some begin
      → Contains (accepted s row) (event.Start begin.task)
  pub numbers : (i : ℕ) (begin : Begun) → slice_get begun i ≡ Some begin
      → begin.task ≡ length s.state.work.tasks + i
  pub more : length (session_after s row).state.work.tasks
      ≡ length s.state.work.tasks + length begun
  pub any : list_any is_ack (replies s row) ≡ true
  pub whole : up_to_last_ack row (replies s row) ≡ row

pub contains_there : {X : Type 0} (xs : List X) (y x : X) → Contains xs x → Contains (y ∷ xs) x
contains_there xs y x (k, less, is) = (suc k, omega (arith, less), is)

pub contains_here : {X : Type 0} (xs : List X) (x : X) → Contains (x ∷ xs) x
contains_here xs x = (zero, omega arith, refl)

-- What is so of the first element, and of each element of the rest.
at_each : {X : Type 0} (P : ℕ → X → Type 0) (x : X) (xs : List X) → P zero x
    → ((i : ℕ) (y : X) → slice_get xs i ≡ Some y → P (suc i) y)
    → (i : ℕ) (y : X) → slice_get (x ∷ xs) i ≡ Some y → P i y
at_each P x xs first rest zero y at = subst (P zero) (same_Some x y at) first
at_each P x xs first rest (suc i) y at = rest i y at

-- One more command has begun before those of a row.
join : (p : State) (plan : Plan) (names : Names) → Fits p plan names → (s : Session) (c : ℕ)
    → c < length plan.commands.items → (chosen : List ℕ) (row : List Step) (n : ℕ)
    (others : List Begun) → Begins p plan names s c n
    → Played plan names
    (after_step (after_step s (step.Command (next_try p names plan.commands.items c)))
    step.Start) row chosen others
    → Played plan names s
    (step.Command (next_try p names plan.commands.items c) ∷ step.Start ∷ row) (c ∷ chosen)
    (record { command = c; task = n } ∷ others)
join p plan names fits s c less chosen row n others here rest =
    let commands = plan.commands.items in
    let asked = next_try p names commands c in
    let s1 : Session = after_step s (step.Command asked) in
    let s2 : Session = after_step s1 step.Start in
    let end : State = (session_after s2 row).state in
    let it = call_of plan names fits.named c less in
    let group : List ℕ = group_of names commands c in
    let key : List ℕ = key_of names c in
    let begin : Begun = record { command = c; task = n } in
    let below : n < length s2.state.work.tasks = omega (arith, here.one.number, here.one.more) in
    let own : is_task end names.night group key n ≡ true =
    task_goes s2.state end rest.goes names.night group key n below ∙ here.one.own in
    let events : accepted s (step.Command asked ∷ step.Start ∷ row)
    ≡ here.made ∷ event.Start n ∷ accepted s2 row =
    ap (λ o. cons_option o (cons_option (event_of_step s1 step.Start) (accepted s2 row))) here.first
    ∙ ap (λ o. here.made ∷ cons_option o (accepted s2 row)) here.second in
    let any : (list_any is_ack (replies s2 row)) ≡ true = rest.any in
    let second : list_any is_ack (replies s1 (step.Start ∷ row)) ≡ true =
    ap (λ b. is_ack (reply_of_step s1 step.Start) || b) any
    ∙ or-true (is_ack (reply_of_step s1 step.Start)) in
    let first : list_any is_ack (replies s (step.Command asked ∷ step.Start ∷ row)) ≡ true =
    ap (λ b. is_ack (reply_of_step s (step.Command asked)) || b) second
    ∙ or-true (is_ack (reply_of_step s (step.Command asked))) in
    record {
      commands = ap (λ cs. c ∷ cs) rest.commands;
      goes = goes_on s.state s2.state end here.one.goes rest.goes;
      consistent = rest.consistent;
      none = rest.none;
      turn = λ ends now sizes.
          rest.turn ends now sizes
          ∙ ap (λ x. after_turn x (Begin now sizes chosen)) (here.one.turn ends now sizes)
          ∙ begins_join (night_in s.state ends plan names) now sizes (c ∷ []) chosen;
      right = at_each (λ i x. IsRight end names commands x) begin others (record {
        runs = stage_goes s2.state end rest.goes is_running n below ∙ here.one.runs;
        own = λ d other g k called.
            tasks_part end plan names n c it.command group key fits.distinct it.called own d other
            g k called;
      }) rest.right;
      listed = at_each (λ i x. Contains
          (accepted s (step.Command asked ∷ step.Start ∷ row)) (event.Start x.task)) begin others
          (subst (λ (es : List Event). Contains es (event.Start n)) (sym events)
          (contains_there (event.Start n ∷ accepted s2 row) here.made (event.Start n)
          (contains_here (accepted s2 row) (event.Start n))))
          (λ i x at. subst (λ (es : List Event). Contains es (event.Start x.task)) (sym events)
          (contains_there (event.Start n ∷ accepted s2 row) here.made (event.Start x.task)
          (contains_there (accepted s2 row) (event.Start n) (event.Start x.task)
          (rest.listed i x at))));
      numbers = at_each (λ i x. x.task ≡ length s.state.work.tasks + i) begin others
          (omega (arith, here.one.number))
          (λ i x at. omega (arith, rest.numbers i x at, here.one.more));
      more = omega (arith, rest.more, here.one.more);
      any = first;
      whole = ap (λ b. cond b (step.Command asked
          ∷ up_to_last_ack (step.Start ∷ row) (replies s1 (step.Start ∷ row))) []) first
          ∙ ap (λ (xs : List Step). step.Command asked ∷ xs)
          (ap (λ b. cond b (step.Start ∷ up_to_last_ack row (replies s2 row)) []) second
          ∙ ap (λ (xs : List Step). step.Start ∷ xs) rest.whole);
    }

played : (p : State) (plan : Plan) (names : Names) → Fits p plan names → (chosen : List ℕ)
    → AllByRecursion (λ c. c < length plan.commands.items) chosen → (s : Session) → Ready p s
    → (begun : List Begun)
    → begins_reported chosen (replies s (row_of p names plan.commands.items chosen)) ≡ Some begun
    → Played plan names s (row_of p names plan.commands.items chosen) chosen begun
played p plan names fits [] all s ready (begin ∷ begun) reported = cc
played p plan names fits [] all s ready [] reported = record {
  commands = refl;
  goes = goes_nowhere s.state;
  consistent = ready.consistent;
  none = ready.none;
  turn = λ ends now sizes.
      rows_are_one_turn s.state ends plan names [] now sizes fits.named tt;
  right = λ i begin at. absurd (none-some begin at);
  listed = λ i begin at. absurd (none-some begin at);
  numbers = λ i begin at. absurd (none-some begin at);
  more = omega arith;
  any = refl;
  whole = refl;
}
played p plan names fits (c ∷ chosen) all s ready begun reported =
    let commands = plan.commands.items in
    let asked = next_try p names commands c in
    let s1 : Session = after_step s (step.Command asked) in
    let s2 : Session = after_step s1 step.Start in
    let row : List Step = row_of p names commands chosen in
    let one = one_reported (reply_of_step s (step.Command asked)) (reply_of_step s1 step.Start)
    (begins_reported chosen (replies s2 row)) c begun reported in
    let begin : Begun = record { command = c; task = one.task } in
    let here = begins p plan names fits s ready c all.0 one.task one.answer one.named in
    let rest = played p plan names fits chosen all.1 s2 here.one.ready one.others one.reported in
    subst (λ (xs : List Begun). Played plan names s
    (step.Command asked ∷ step.Start ∷ row) (c ∷ chosen) xs) (sym one.all)
    (join p plan names fits s c all.0 chosen row one.task one.others here rest)

-- ---- the laws

pub all_of : {X : Type 0} (P : X → Type 0) (xs : List X)
    → ((i : ℕ) (x : X) → slice_get xs i ≡ Some x → P x) → All P xs
all_of {X = X} P xs each = All-from_recursion P xs (by_rows xs each)
  where
    by_rows : (xs : List X) → ((i : ℕ) (x : X) → slice_get xs i ≡ Some x → P x)
        → AllByRecursion P xs
    by_rows [] each = tt
    by_rows (x ∷ xs) each = (each zero x refl, by_rows xs (λ i y at. each (suc i) y at))

pub reported_so : (s : Session) (plan : Plan) (names : Names) (chosen : List ℕ) (begun : List Begun)
    → Reports s plan names chosen begun
    → Played plan names s (row_of s.state names plan.commands.items chosen) chosen begun
reported_so s plan names chosen begun reports =
    played s.state plan names
    (record {
      named = reports.rest.named;
      distinct = reports.rest.distinct;
      housed = λ g group at. housed_at s.state names g group reports.rest.housed at;
    })
    chosen (recursion_from_All (λ c. c < length plan.commands.items) chosen reports.within) s
    (record {
      came = came_nowhere s.state;
      consistent = reports.rest.consistent;
      none = reports.rest.none_fresh;
    }) begun reports.reported

pub rows_begin_all : RowsBeginAll
rows_begin_all s plan names chosen begun reports =
    let it = reported_so s plan names chosen begun reports in
    record {
      commands = it.commands;
      turn = it.turn;
      rest = record {
        named = reports.rest.named;
        distinct = reports.rest.distinct;
        housed = housed_goes s.state
            (session_after s (row_of s.state names plan.commands.items chosen)).state it.goes.came
            names
            ∙ reports.rest.housed;
        consistent = it.consistent;
        none_fresh = it.none;
      };
      right = all_of (IsRight
          (session_after s (row_of s.state names plan.commands.items chosen)).state names
          plan.commands.items) begun it.right;
    }

pub reports_acknowledged : ReportsAcknowledged
reports_acknowledged s plan names chosen begun reports =
    let it = reported_so s plan names chosen begun reports in
    let row : List Step = row_of s.state names plan.commands.items chosen in
    all_of (λ (begin : Begun). Contains (acknowledged s row (replies s row))
    (event.Start begin.task)) begun
    (λ i begin at. subst (λ (steps : List Step). Contains (accepted s steps)
    (event.Start begin.task)) (sym it.whole) (it.listed i begin at))

pub tasks_are_reported_once : TasksAreReportedOnce
tasks_are_reported_once s plan names chosen begun reports =
    (reported_so s plan names chosen begun reports).numbers

-- ---- the last try

pub reports_last_tries : ReportsLastTries
reports_last_tries s plan names chosen begun reports different =
    all_of (λ (begin : Begun). IsOfCommand end names plan.commands.items begin.task begin.command)
    begun of
  where
    row : List Step
    row = row_of s.state names plan.commands.items chosen

    end : State
    end = (session_after s row).state

    it : Played plan names s row chosen begun
    it = reported_so s plan names chosen begun reports

    chosen_at : (i : ℕ) (begin : Begun) → slice_get begun i ≡ Some begin
        → slice_get chosen i ≡ Some begin.command
    chosen_at i begin at =
        ap (λ (xs : List ℕ). slice_get xs i) (sym it.commands)
        ∙ slice_get-map (λ (x : Begun). x.command) begun i
        ∙ ap (option_map (λ (x : Begun). x.command)) at

    other_try : (i j : ℕ) (begin other : Begun) → slice_get begun i ≡ Some begin
        → slice_get begun j ≡ Some other → i < j → (d : ℕ) → (begin.command == d) ≡ true
        → (other.command == d) ≡ false
    other_try i j begin other at there less d own = by_other (other.command == d) refl
      where
        by_other : (b : Bool) → (other.command == d) ≡ b → b ≡ false
        by_other false is = refl
        by_other true is =
            let one : begin.command ≡ d = eqb-true begin.command d own in
            let two : other.command ≡ d = eqb-true other.command d is in
            let same : i ≡ j =
            different i j begin.command (chosen_at i begin at)
            (chosen_at j other there ∙ ap (λ (x : ℕ). Some x) (two ∙ sym one)) in
            absurd (omega (arith, same, less))

    of : (i : ℕ) (begin : Begun) → slice_get begun i ≡ Some begin
        → IsOfCommand end names plan.commands.items begin.task begin.command
    of i begin at = record {
      only = (it.right i begin at).own;
      last = λ d command group key called its m after.
          by_place m (cases_lt m (length end.work.tasks)) d command group key called
          (sym ((it.right i begin at).own d command group key called) ∙ its) after;
    }
      where
        by_place : (m : ℕ) → (m < length end.work.tasks) ⊎ (length end.work.tasks ≤ m)
            → (d : ℕ) (command : Command) (group key : List ℕ)
            → IsCalled names plan.commands.items d command group key
            → (begin.command == d) ≡ true → begin.task < m
            → is_try end names.night group key m ≡ false
        by_place m (inr past) d command group key called own after =
            past_is_no_try end names.night group key (length end.work.tasks) refl m past
        by_place m (inl within) d command group key called own after =
            let j : ℕ = m - length s.state.work.tasks in
            let here : begin.task ≡ length s.state.work.tasks + i = it.numbers i begin at in
            let other = row_at begun j (omega (arith, within, it.more, after, here)) in
            let number : other.0.task ≡ m =
            it.numbers j other.0 other.1 ∙ omega (arith, after, here) in
            try_is end names.night group key m
            ∙ ap (λ b. b && has_stage counts end.work m)
            (ap (is_task end names.night group key) (sym number)
            ∙ (it.right j other.0 other.1).own d command group key called
            ∙ other_try i j begin other.0 at other.1 (omega (arith, after, here)) d own)
