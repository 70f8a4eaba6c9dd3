-- Commands that don't run are canceled, one after another.
use Rattle.std.proofs.Common.{◌≡◌, ◌≢◌, ◌<◌, ◌≤◌, ◌∙◌, ◌==◌, ◌&&◌, ◌||◌, ◌⊎◌, ◌+◌, ℕ, zero, suc}
use Rattle.std.proofs.Common.{Bool}
use Rattle.std.proofs.Common.{true, false, cond, codes, List, [], ◌∷◌, ◌++◌, Option, Some, None}
use Rattle.std.proofs.Common.{length, map, slice_get, ap, refl, sym, subst, inl, inr, arith}
use Rattle.std.proofs.lemmas.Bool.{cases_eq, eq-eqb, le-leb}
use Rattle.std.proofs.lemmas.Option.{none-some, same_Some}
use Rattle.std.specs.List.{Contains, cons_option}
use Rattle.std.specs.Option.{option_map}
use Rattle.std.specs.Prelude.{is_some}
use Rattle.std.specs.Str.{bytes_eq}
use Rattle.run_model.proofs.Common.{and_parts}
use Rattle.run_model.proofs.RowLemmas.{length-at_row, slice_get-at_row_other, slice_get-at_row_same}
use Rattle.run_model.specs.declared.answers.Reply.{Reply}
use Rattle.run_model.specs.declared.commands.Step.{Step}
use Rattle.run_model.specs.declared.commands.Step.TheVariants as step
use Rattle.run_model.specs.declared.tasks.Outcome.{Outcome}
use Rattle.run_model.specs.declared.tasks.Outcome.TheVariants as outcome
use Rattle.run_model.specs.declared.tasks.Stage.TheVariants as stage
use Rattle.run_model.specs.declared.tasks.Task.{Task}
use Rattle.run_model.specs.Event.{Event}
use Rattle.run_model.specs.Event as event
use Rattle.run_model.specs.Session.{Session, accepted, after_step, event_of_step, replies}
use Rattle.run_model.specs.Session.{reply_of_step, session_after, with_event}
use Rattle.run_model.specs.State.{State}
use Rattle.run_model.specs.Step as change
use Rattle.run_model.specs.Tasks.{has_stage, is_running}
use Rattle.run_model.specs.WorkChanges.{error_of, group_of_task, groups_after, stage_of, with_error}
use Rattle.run_model.specs.WorkChanges.{with_stage}
use Rattle.model_laws.proofs.StateSteps.{event_keeps}
use Rattle.night_plan.specs.declared.commands.Command.{Command}
use Rattle.night_plan.specs.declared.commands.Plan.{Plan}
use Rattle.night_plan.specs.declared.facts.Known.{Known}
use Rattle.night_plan.specs.declared.facts.Phase.TheVariants.{Busy, Canceled}
use Rattle.night_plan.specs.Nights.{Night}
use Rattle.night_plan.specs.Sessions.{after_all}
use Rattle.night_plan.specs.Turns.{Begin, Cut, Fail, Turn, after as after_turn, all_turned}
use Rattle.night_drive.specs.declared.ends.Ends.{Ends}
use Rattle.night_drive.specs.declared.names.Names.{Names}
use Rattle.night_drive.specs.PlanTurns.{night_in}
use Rattle.night_drive.specs.Seen.{IsCalled, moment_of}
use Rattle.night_drive.specs.Tries.{counts, is_cancel}
use Rattle.night_drive.specs.Turns.{is_task}
use Rattle.night_drive.proofs.Parting.{tasks_part}
use Rattle.night_drive.proofs.Playing.{finishes_are_turns}
use Rattle.night_drive.proofs.Staying.{error_keeps, task_end_keeps}
use Rattle.drive_steps.specs.Cancels.{are_started, canceled_text, cuts_of}
use Rattle.drive_steps.specs.declared.cancels.CommandCancel.{CommandCancel}
use Rattle.drive_steps.specs.declared.heard.Ended.{Ended}
use Rattle.drive_steps.specs.declared.reported.Begun.{Begun}
use Rattle.drive_steps.specs.Heard.{AreEnds, finishes_of}
use Rattle.drive_steps.specs.Living.{AreBareRooms, IsLiving}
use Rattle.drive_steps.specs.Reported.{is_answer, task_in}
use Rattle.drive_steps.specs.Starts.{group_of, key_of, next_try}
use Rattle.drive_steps.proofs.Going.{Came, Goes, came_nowhere, came_on, goes_nowhere, goes_on}
use Rattle.drive_steps.proofs.Going.{owned_goes, stage_goes, task_came, task_goes, unstaged}
use Rattle.drive_steps.proofs.Hearing.{finish_allowed, finish_made}
use Rattle.drive_steps.proofs.Listing.{skip}
use Rattle.drive_steps.proofs.Playing.{Begins, Called, Fits, One, Ready, begins, call_of}
use Rattle.drive_steps.proofs.Playing.{contains_here, led, past_is_no_try}
use Rattle.drive_steps.proofs.Remaining.{end_leaves, scope_stays}
use Rattle.drive_steps.proofs.Resting.{finish_rests}
use Rattle.drive_steps.proofs.Surviving.{bare_at}

-- ---- a finish

pub came_finish : (p : State) (n : ℕ) (o : Outcome) → Came p (change.step p (event.Finish n o))
came_finish p n o = record {
  scopes = task_end_keeps (p.count + 1) p.work n (error_of o) p.tree;
  groups = error_keeps (group_of_task p.work n) (error_of o) p.work.groups;
  sized = by_outcome o;
  rows = rows;
  grown = omega (arith, length-at_row (with_stage (stage_of o)) n p.work.tasks);
}
  where
    by_outcome : (x : Outcome)
        → length (groups_after (group_of_task p.work n) (error_of x) p.work.groups)
        ≡ length p.work.groups
    by_outcome outcome.Success = refl
    by_outcome (outcome.Failure text) =
        length-at_row (with_error text) (group_of_task p.work n) p.work.groups

    by_row : (x : Option Task)
        → option_map unstaged (option_map (with_stage (stage_of o)) x) ≡ option_map unstaged x
    by_row None = refl
    by_row (Some row) = refl

    rows : (m : ℕ) → m < length p.work.tasks
        → option_map unstaged (slice_get (change.step p (event.Finish n o)).work.tasks m)
        ≡ option_map unstaged (slice_get p.work.tasks m)
    rows m below = elim (cases_eq m n) [
      | inl same ↦
          ap (λ (k : ℕ). option_map unstaged
          (slice_get (change.step p (event.Finish n o)).work.tasks k)) same
          ∙ ap (option_map unstaged)
          (slice_get-at_row_same (with_stage (stage_of o)) n p.work.tasks)
          ∙ by_row (slice_get p.work.tasks n)
          ∙ ap (λ (k : ℕ). option_map unstaged (slice_get p.work.tasks k)) (sym same)
      | inr other ↦
          ap (option_map unstaged)
          (slice_get-at_row_other (with_stage (stage_of o)) n m p.work.tasks other)
    ]

pub bare_came : (p q : State) (names : Names) → Came p q → AreBareRooms p names
    → AreBareRooms q names
bare_came p q names came bare g h group at owned =
    scope_stays p.work.groups q.work.groups came.groups h
    ∙ bare g h group at (sym (owned_goes p q came names.night group h) ∙ owned)

-- ---- the turn

cut_begun_from : (known : List Known) (i c : ℕ)
    → all_turned (Cut c) i (all_turned (Begin 0 [] (c ∷ [])) i known)
    ≡ all_turned (Cut c) i known
cut_begun_from [] i c = refl
cut_begun_from (k ∷ known) i c =
    ap (λ (x : Known). x ∷ all_turned (Cut c) (i + 1)
    (all_turned (Begin 0 [] (c ∷ [])) (i + 1) known)) (one (c == i))
    ∙ ap (λ (ks : List Known). cond (c == i) (record k { phase = Canceled }) k ∷ ks)
    (cut_begun_from known (i + 1) c)
  where
    one : (b : Bool)
        → cond b
        (record (cond (b || false) (record k { phase = Busy }) k) { phase = Canceled })
        (cond (b || false) (record k { phase = Busy }) k)
        ≡ cond b (record k { phase = Canceled }) k
    one true = refl
    one false = refl

cut_begun : (n : Night) (c : ℕ)
    → after_turn (after_turn n (Begin 0 [] (c ∷ []))) (Cut c) ≡ after_turn n (Cut c)
cut_begun n c = ap (λ (ks : List Known). record n { known = ks }) (cut_begun_from n.known 0 c)

is_a_cancel : (why : List ℕ) → is_cancel (canceled_text why) ≡ true
is_a_cancel why =
    ap (λ b. b && bytes_eq (codes "canceled: ") (codes "canceled: "))
    (le-leb 10 (length (canceled_text why)) (omega arith))

not_withdrawn : (why : List ℕ) → counts (stage.Failure (canceled_text why)) ≡ true
not_withdrawn why = refl

-- ---- one command

-- From one session to the other command c was canceled.
record OneCut (p : State) (plan : Plan) (names : Names) (s t : Session) (c : ℕ) : Type 0 where
  ready : Ready p t
  goes : Goes s.state t.state
  turn : (ends : Ends) → night_in t.state ends plan names
      ≡ after_turn (night_in s.state ends plan names) (Cut c)
  own : is_task t.state names.night (group_of names plan.commands.items c) (key_of names c)
      (length s.state.work.tasks) ≡ true
  still : has_stage is_running t.state.work (length s.state.work.tasks) ≡ false
  more : length t.state.work.tasks ≡ length s.state.work.tasks + 1

finished_cut : (p : State) (plan : Plan) (names : Names) → Fits p plan names → (s s2 : Session)
    → AreBareRooms s.state names → (c : ℕ) → c < length plan.commands.items → (n : ℕ)
    → One p plan names s s2 c n → (why : List ℕ)
    → OneCut p plan names s
    (with_event s2 (Some (event.Finish n (outcome.Failure (canceled_text why))))) c
finished_cut p plan names fits s s2 bare c less n one why =
    let commands = plan.commands.items in
    let o : Outcome = outcome.Failure (canceled_text why) in
    let q2 : State = s2.state in
    let q3 : State = change.step q2 (event.Finish n o) in
    let night = names.night in
    let it = call_of plan names fits.named c less in
    let group : List ℕ = group_of names commands c in
    let key : List ℕ = key_of names c in
    let try : Begun = record { command = c; task = n } in
    let below : n < length q2.work.tasks = omega (arith, one.number, one.more) in
    let lives : IsLiving q2 names commands try = record {
      within = less;
      runs = one.runs;
      of = record {
        only = λ d other g k called.
            tasks_part q2 plan names n c it.command group key fits.distinct it.called one.own d
            other g k called;
        last = λ d other g k called its m after.
            past_is_no_try q2 night g k (n + 1) (omega (arith, one.number, one.more)) m
            (omega (arith, after));
      };
    } in
    let bare2 : AreBareRooms q2 names = bare_came s.state q2 names one.goes.came bare in
    let came : Came q2 q3 = came_finish q2 n o in
    record {
      ready = record {
        came = came_on p q2 q3 one.ready.came came;
        consistent = event_keeps q2 q3 (event.Finish n o) one.ready.consistent
            (led q2 (event.Finish n o) (finish_allowed q2 n o one.runs));
        none = (finish_rests q2 n o).none one.ready.none;
      };
      goes = record {
        came = came_on s.state q2 q3 one.goes.came came;
        tasks = λ m less.
            slice_get-at_row_other (with_stage (stage_of o)) n m q2.work.tasks
            (λ same. omega (arith, less, same, one.number))
            ∙ one.goes.tasks m less;
      };
      turn = λ ends.
          finishes_are_turns q2 ends ends plan names n c o fits.named one.runs (not_withdrawn why)
          (bare_at q2 plan names try fits.named bare2 lives) (λ m other. refl) lives.of
          ∙ ap (λ b. after_turn (night_in q2 ends plan names)
          (cond b (Cut c) (Fail c (moment_of ends n)))) (is_a_cancel why)
          ∙ ap (λ (x : Night). after_turn x (Cut c)) (one.turn ends 0 [])
          ∙ cut_begun (night_in s.state ends plan names) c;
      own = sym (ap (is_task q3 night group key) one.number)
          ∙ task_came q2 q3 came night group key n below ∙ one.own;
      still = sym (ap (has_stage is_running q3.work) one.number)
          ∙ (end_leaves q2 (record { task = n; outcome = o }) one.runs).ended n
          (ap (λ b. b || false) (eq-eqb n n refl));
      more = length-at_row (with_stage (stage_of o)) n q2.work.tasks ∙ one.more;
    }

-- ---- all of them

-- Task m was made for one of these cancels, and doesn't run.
pub record IsCut (end : State) (names : Names) (commands : List Command)
    (taken : List CommandCancel) (m : ℕ) : Type 0 where
  pub place : ℕ
  pub cancel : CommandCancel
  pub at : slice_get taken place ≡ Some cancel
  pub own : (d : ℕ) (command : Command) (group key : List ℕ)
      → IsCalled names commands d command group key
      → is_task end names.night group key m ≡ (cancel.command == d)
  pub still : has_stage is_running end.work m ≡ false

-- The turn of a cancel.
abbrev pub cut_of : CommandCancel → Turn
cut_of cancel = Cut cancel.command

-- The steps have canceled these commands.
pub record AreCut (p : State) (plan : Plan) (names : Names) (s : Session) (steps : List Step)
    (taken : List CommandCancel) : Type 0 where
  pub ready : Ready p (session_after s steps)
  pub goes : Goes s.state (session_after s steps).state
  pub turn : (ends : Ends) → night_in (session_after s steps).state ends plan names
      ≡ after_all (night_in s.state ends plan names) (map cut_of taken)
  pub made : (m : ℕ) → length s.state.work.tasks ≤ m
      → m < length (session_after s steps).state.work.tasks
      → IsCut (session_after s steps).state names plan.commands.items taken m
  pub listed : (i : ℕ) (cancel : CommandCancel) → slice_get taken i ≡ Some cancel
      → Contains (accepted s steps) (event.Finish (length s.state.work.tasks + i)
      (outcome.Failure (canceled_text cancel.why)))
  pub more : length (session_after s steps).state.work.tasks
      ≡ length s.state.work.tasks + length taken

-- The first two replies.
record FirstTwo (first second : Reply) : Type 0 where
  answer : is_answer first ≡ true
  task : ℕ
  started : task_in second ≡ Some task

first_two : (first second : Reply)
    → is_some (cond (is_answer first) (task_in second) None) ≡ true → FirstTwo first second
first_two first second is = by_answer (is_answer first) (task_in second) refl refl is
  where
    by_answer : (b : Bool) (o : Option ℕ) → is_answer first ≡ b → task_in second ≡ o
        → is_some (cond b o None) ≡ true → FirstTwo first second
    by_answer false o answer started is = cc
    by_answer true None answer started is = cc
    by_answer true (Some n) answer started is =
        record { answer = answer; task = n; started = started }

-- One more command was canceled before those.
join : (p : State) (plan : Plan) (names : Names) → Fits p plan names → (s : Session)
    (cancel : CommandCancel) → cancel.command < length plan.commands.items
    → (x1 x2 x3 : Step) (rest : List Step) (taken : List CommandCancel)
    → OneCut p plan names s (after_step (after_step (after_step s x1) x2) x3) cancel.command
    → event_of_step (after_step (after_step s x1) x2) x3
    ≡ Some (event.Finish (length s.state.work.tasks) (outcome.Failure (canceled_text cancel.why)))
    → AreCut p plan names (after_step (after_step (after_step s x1) x2) x3) rest taken
    → AreCut p plan names s (x1 ∷ x2 ∷ x3 ∷ rest) (cancel ∷ taken)
join p plan names fits s cancel less x1 x2 x3 rest taken one third others = record {
  ready = others.ready;
  goes = goes_on s.state t.state end one.goes others.goes;
  turn = λ ends.
      others.turn ends
      ∙ ap (λ (x : Night). after_all x (map cut_of taken)) (one.turn ends);
  made = λ m past within. by_place m past within (cases_eq m (length s.state.work.tasks));
  listed = listed;
  more = omega (arith, others.more, one.more);
}
  where
    t : Session
    t = after_step (after_step (after_step s x1) x2) x3

    end : State
    end = (session_after t rest).state

    commands : List Command
    commands = plan.commands.items

    it : Called plan names cancel.command
    it = call_of plan names fits.named cancel.command less

    below : length s.state.work.tasks < length t.state.work.tasks
    below = omega (arith, one.more)

    by_place : (m : ℕ) → length s.state.work.tasks ≤ m → m < length end.work.tasks
        → (m ≡ length s.state.work.tasks) ⊎ (m ≢ length s.state.work.tasks)
        → IsCut end names commands (cancel ∷ taken) m
    by_place m past within (inl same) = record {
      place = zero;
      cancel = cancel;
      at = refl;
      own = tasks_part end plan names m cancel.command it.command
          (group_of names commands cancel.command) (key_of names cancel.command) fits.distinct
          it.called
          (ap (is_task end names.night (group_of names commands cancel.command)
          (key_of names cancel.command)) same
          ∙ task_goes t.state end others.goes names.night
          (group_of names commands cancel.command) (key_of names cancel.command)
          (length s.state.work.tasks) below ∙ one.own);
      still = ap (has_stage is_running end.work) same
          ∙ stage_goes t.state end others.goes is_running (length s.state.work.tasks) below
          ∙ one.still;
    }
    by_place m past within (inr other) =
        let it = others.made m (omega (arith, past, other, one.more)) within in
        record {
          place = suc it.place;
          cancel = it.cancel;
          at = it.at;
          own = it.own;
          still = it.still;
        }

    Listed : ℕ → CommandCancel → Type 0
    Listed i x =
        Contains (accepted s (x1 ∷ x2 ∷ x3 ∷ rest)) (event.Finish (length s.state.work.tasks + i)
        (outcome.Failure (canceled_text x.why)))

    after_two : (e : Event)
        → Contains (cons_option (event_of_step (after_step (after_step s x1) x2) x3)
        (accepted t rest)) e
        → Contains (accepted s (x1 ∷ x2 ∷ x3 ∷ rest)) e
    after_two e here =
        skip (event_of_step s x1) (cons_option (event_of_step (after_step s x1) x2)
        (cons_option (event_of_step (after_step (after_step s x1) x2) x3) (accepted t rest))) e
        (skip (event_of_step (after_step s x1) x2)
        (cons_option (event_of_step (after_step (after_step s x1) x2) x3) (accepted t rest)) e here)

    listed : (i : ℕ) (x : CommandCancel) → slice_get (cancel ∷ taken) i ≡ Some x → Listed i x
    listed zero x at =
        subst (λ (y : CommandCancel). Listed zero y) (same_Some cancel x at)
        (subst (λ (n : ℕ). Contains (accepted s (x1 ∷ x2 ∷ x3 ∷ rest))
        (event.Finish n (outcome.Failure (canceled_text cancel.why)))) none_more
        (after_two (event.Finish (length s.state.work.tasks)
        (outcome.Failure (canceled_text cancel.why)))
        (subst (λ (o : Option Event). Contains (cons_option o (accepted t rest))
        (event.Finish (length s.state.work.tasks) (outcome.Failure (canceled_text cancel.why))))
        (sym third)
        (contains_here (accepted t rest) (event.Finish (length s.state.work.tasks)
        (outcome.Failure (canceled_text cancel.why)))))))
      where
        none_more : length s.state.work.tasks ≡ length s.state.work.tasks + zero
        none_more = omega arith
    listed (suc i) x at =
        subst (λ (n : ℕ). Contains (accepted s (x1 ∷ x2 ∷ x3 ∷ rest))
        (event.Finish n (outcome.Failure (canceled_text x.why)))) one_more
        (after_two (event.Finish (length t.state.work.tasks + i)
        (outcome.Failure (canceled_text x.why)))
        (skip (event_of_step (after_step (after_step s x1) x2) x3) (accepted t rest)
        (event.Finish (length t.state.work.tasks + i) (outcome.Failure (canceled_text x.why)))
        (others.listed i x at)))
      where
        one_more : length t.state.work.tasks + i ≡ length s.state.work.tasks + suc i
        one_more = omega (arith, one.more)

pub all_cut : (taken : List CommandCancel) (p : State) (plan : Plan) (names : Names)
    → Fits p plan names
    → ((i : ℕ) (cancel : CommandCancel) → slice_get taken i ≡ Some cancel
    → cancel.command < length plan.commands.items)
    → (s : Session) → Ready p s → AreBareRooms s.state names → (n : ℕ)
    → n ≡ length s.state.work.tasks → (more : List Step)
    → are_started taken
    (replies s (cuts_of p names plan.commands.items n taken ++ more)) ≡ true
    → AreCut p plan names s (cuts_of p names plan.commands.items n taken) taken
all_cut [] p plan names fits within s ready bare n number more started = record {
  ready = ready;
  goes = goes_nowhere s.state;
  turn = λ ends. refl;
  made = λ m past within. absurd (omega (arith, past, within));
  listed = λ i cancel at. absurd (none-some cancel at);
  more = omega arith;
}
all_cut (cancel ∷ taken) p plan names fits within s ready bare n number more started =
    let commands = plan.commands.items in
    let c : ℕ = cancel.command in
    let less : c < length commands = within zero cancel refl in
    let o : Outcome = outcome.Failure (canceled_text cancel.why) in
    let x1 : Step = step.Command (next_try p names commands c) in
    let x3 : Step = step.Finish n o in
    let s1 : Session = after_step s x1 in
    let s2 : Session = after_step s1 step.Start in
    let s3 : Session = after_step s2 x3 in
    let rest : List Step = cuts_of p names commands (n + 1) taken in
    let parts = and_parts
    (is_some (cond (is_answer (reply_of_step s x1)) (task_in (reply_of_step s1 step.Start)) None))
    (are_started taken (replies s3 (rest ++ more))) started in
    let two = first_two (reply_of_step s x1) (reply_of_step s1 step.Start) parts.0 in
    let here : Begins p plan names s c two.task =
    begins p plan names fits s ready c less two.task two.answer two.started in
    let same : two.task ≡ n = here.one.number ∙ sym number in
    let one : One p plan names s s2 c n =
    subst (λ (m : ℕ). One p plan names s s2 c m) same here.one in
    let made : event_of_step s2 x3 ≡ Some (event.Finish n o) = finish_made s2 n o one.runs in
    let cut : OneCut p plan names s s3 c =
    subst (λ (x : Session). OneCut p plan names s x c) (sym (ap (with_event s2) made))
    (finished_cut p plan names fits s s2 bare c less n one cancel.why) in
    join p plan names fits s cancel less x1 step.Start x3 rest taken cut
    (made ∙ ap (λ (m : ℕ). Some (event.Finish m o)) number)
    (all_cut taken p plan names fits (λ i x at. within (suc i) x at) s3 cut.ready
    (bare_came s.state s3.state names cut.goes.came bare) (n + 1)
    (omega (arith, number, cut.more)) more parts.1)

-- ---- the ends before them

pub ends_came : (row : List (Ended × ℕ)) (s : Session) (names : Names) (commands : List Command)
    → AreEnds s.state names commands row
    → Came s.state (session_after s (finishes_of (map (λ x. x.0) row))).state
ends_came [] s names commands are = came_nowhere s.state
ends_came ((end, c) ∷ row) s names commands are =
    let s1 : Session = with_event s (Some (event.Finish end.task end.outcome)) in
    let made : after_step s (step.Finish end.task end.outcome) ≡ s1 =
    ap (with_event s) (finish_made s end.task end.outcome are.0.runs) in
    subst (λ (x : Session). Came s.state
    (session_after x (finishes_of (map (λ y. y.0) row))).state) (sym made)
    (came_on s.state s1.state (session_after s1 (finishes_of (map (λ y. y.0) row))).state
    (came_finish s.state end.task end.outcome) (ends_came row s1 names commands are.1))
