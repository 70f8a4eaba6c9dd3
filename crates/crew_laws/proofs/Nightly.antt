-- What holds through a night of a crew: whatever a worker holds was started, and the book has the
-- start.
use Rattle.run_model.proofs.Common.{◌≡◌, ◌∙◌, ◌⊎◌, ℕ, suc, ◌+◌, ◌≤◌, List, [], ◌∷◌}
use Rattle.run_model.proofs.Common.{◌++◌, Bool, true, false, if◌then◌else◌, Option, Some, None, Ok}
use Rattle.run_model.proofs.Common.{Err, Result, allowed, ap, append-nil, append_assoc, arith}
use Rattle.run_model.proofs.Common.{decide_start, eq-eqb, eqb-true, first_ready, inl, inr, length}
use Rattle.run_model.proofs.Common.{length-append, none-some, option_and_then}
use Rattle.run_model.proofs.Common.{option_map, refl, reply_start, drop}
use Rattle.run_model.proofs.Common.{result_unwrap_or, run, same_Some, slice_get, started_of, subst}
use Rattle.run_model.proofs.Common.{sym, take, take-append-drop, take-append-le, ◌==◌, both_ways}
use Rattle.run_model.proofs.Common.{Event, Session, State, replied}
use Rattle.std.proofs.Math.Seq.{take-length}
use Rattle.run_model.specs.declared.answers.Reply.{Reply}
use Rattle.run_model.specs.declared.answers.Reply.TheVariants as reply
use Rattle.run_model.specs.declared.answers.Started.{Started}
use Rattle.run_model.specs.declared.answers.TaskInfo.{TaskInfo}
use Rattle.run_model.specs.declared.commands.Step.{Step}
use Rattle.run_model.specs.declared.commands.Step.TheVariants as step
use Rattle.run_model.specs.declared.refusals.Refusal.{Refusal}
use Rattle.run_model.specs.declared.refusals.Refusal.TheVariants as refusal
use Rattle.run_model.specs.declared.tasks.Task.{Task}
use Rattle.run_model.specs.Event as event
use Rattle.run_model.specs.Replies.{is_task_done}
use Rattle.run_model.specs.Session.{accepted, after_step, is_ack}
use Rattle.run_model.specs.Session.{with_event}
use Rattle.model_laws.proofs.Answering.{room_made}
use Rattle.model_laws.proofs.Passing.{and_then_Ok}
use Rattle.model_laws.proofs.RunLemmas.{run_counts, run_join}
use Rattle.model_laws.proofs.StartedOnce.{Begun, never_again, starts, still}
use Rattle.model_laws.proofs.StartingReplies.{ok_or_Ok, start_allowed, start_first}
use Rattle.model_laws.proofs.Stepping.{accepted_history, accepted_start}
use Rattle.book_model.specs.Machines.{Running, TakesAll, took}
use Rattle.book_model.specs.Plays.{IsReply, IsReplyWhere, next_session}
use Rattle.book_model.proofs.Stepping.{reached_after}
use Rattle.run_crew.specs.Courses.{Call}
use Rattle.run_crew.specs.Courses as call
use Rattle.crew_laws.specs.Nights.{Deed, Did, Flushed, Happen, Happens, calls_of}
use Rattle.crew_laws.proofs.Holding.{EachMay, Held, May, Saves, Turns, begun, held_after, save}
use Rattle.crew_laws.proofs.Holding.{turn_on}

-- ---- the machine

-- The machine's state is the one to which its events led, and no more events are acknowledged than
-- there are.
pub record Sound (m : Running) : Type 0 where
  pub reached : run m.book.session.start m.book.session.history ≡ Some m.book.session.state
  pub within : m.acked ≤ length m.book.session.history

-- Events were only added, and no fewer are acknowledged.
pub record Grows (m n : Running) : Type 0 where
  pub start : n.book.session.start ≡ m.book.session.start
  pub more : List Event
  pub history : n.book.session.history ≡ m.book.session.history ++ more
  pub acked : m.acked ≤ n.acked

pub grows_not : (m n : Running) → n ≡ m → Grows m n
grows_not m n same = record {
  start = ap (λ (r : Running). r.book.session.start) same;
  more = [];
  history = ap (λ (r : Running). r.book.session.history) same
      ∙ sym (append-nil m.book.session.history);
  acked = let e : n.acked ≡ m.acked = ap (λ (r : Running). r.acked) same in omega (arith, e);
}

pub grows_on : (m n r : Running) → Grows m n → Grows n r → Grows m r
grows_on m n r one two = record {
  start = two.start ∙ one.start;
  more = one.more ++ two.more;
  history = two.history ∙ ap (λ l. l ++ two.more) one.history
      ∙ append_assoc m.book.session.history one.more two.more;
  acked = let a = one.acked in let b = two.acked in omega (arith, a, b);
}

-- A session after a step, or as it was.
record Stepped (s t : Session) : Type 0 where
  reached : run t.start t.history ≡ Some t.state
  start : t.start ≡ s.start
  more : List Event
  history : t.history ≡ s.history ++ more

stepped : (b : Bool) (s : Session) (x : Step) → run s.start s.history ≡ Some s.state
    → Stepped s (next_session b s x)
stepped true s x reached = record {
  reached = reached;
  start = refl;
  more = [];
  history = sym (append-nil s.history);
}
stepped false s x reached = record {
  reached = reached_after s (x ∷ []) reached;
  start = accepted_start s (x ∷ []);
  more = accepted s (x ∷ []);
  history = accepted_history s (x ∷ []);
}

acked_on : (b : Bool) (n most : ℕ) → n ≤ most
    → (n ≤ (if b then most else n)) × ((if b then most else n) ≤ most)
acked_on true n most few = (few, omega arith)
acked_on false n most few = (omega arith, few)

pub took_on : (m : Running) (x : Step) (r : Reply) → Sound m
    → Sound (took m x r) × Grows m (took m x r)
took_on m x r sound =
    let s : Session = m.book.session in
    let on = stepped m.book.broken s x sound.reached in
    let acked = acked_on (is_ack r) m.acked (length s.history) sound.within in
    let longer : length s.history ≤ length (next_session m.book.broken s x).history =
    let sum = length-append s.history on.more in
    let same = ap (λ (l : List Event). length l) on.history in
    omega (arith, sum, same) in
    let a = acked.1 in (
      record { reached = on.reached; within = omega (arith, a, longer) },
      record {
        start = on.start;
        more = on.more;
        history = on.history;
        acked = acked.0;
      },
    )

pub row_on : (m last : Running) (steps : List Step) (answers : List Reply) → Sound m
    → TakesAll m steps answers last → Sound last × Grows m last
row_on m last [] [] sound is = (subst (λ n. Sound n) (sym is) sound, grows_not m last is)
row_on m last [] (r ∷ answers) sound is = absurd is
row_on m last (x ∷ steps) [] sound is = absurd is
row_on m last (x ∷ steps) (r ∷ answers) sound (reply, rest) =
    let one = took_on m x r sound in
    let more = row_on (took m x r) last steps answers one.0 rest in
    (more.0, grows_on m (took m x r) last one.1 more.1)

-- ---- a deed

same_on : (m next : Running) → Sound m → next ≡ m → Sound next × Grows m next
same_on m next sound same = (subst (λ n. Sound n) (sym same) sound, grows_not m next same)

step_on : (m next : Running) (x : Step) (r : Reply) → Sound m → next ≡ took m x r
    → Sound next × Grows m next
step_on m next x r sound is =
    subst (λ n. Sound n × Grows m n) (sym is) (took_on m x r sound)

pub deed_on : (m next : Running) (deed : Deed) → Sound m → Happens m deed next
    → Sound next × Grows m next
deed_on m next (Did worker (call.Start r)) sound is =
    step_on m next step.Start (replied reply.Started r) sound is.1
deed_on m next (Did worker (call.Finish task how r)) sound is =
    step_on m next (step.Finish task how) (replied reply.Finished r) sound is.1
deed_on m next (Did worker (call.Save event (Ok durable))) sound is =
    same_on m next sound is.1
deed_on m next (Did worker (call.Save event (Err why))) sound is = same_on m next sound is
deed_on m next (Did worker (call.Handles place name answer)) sound is = same_on m next sound is
deed_on m next (Did worker (call.Gate task number answer)) sound is = same_on m next sound is
deed_on m next (Did worker (call.Scope task answer)) sound is = same_on m next sound is
deed_on m next (Did worker (call.Make place info number done answer)) sound is =
    same_on m next sound is
deed_on m next (Did worker (call.Report task)) sound is = same_on m next sound is
deed_on m next (Did worker (call.Wake event)) sound is = same_on m next sound is
deed_on m next (Did worker (call.Wait event r)) sound is = same_on m next sound is
deed_on m next (Flushed r) sound is = step_on m next step.Flush r sound is.1

-- ---- a start

answered : (r : Result Started Refusal) (started : Started)
    → reply.Started started ≡ replied reply.Started r → r ≡ Ok started
answered (Ok x) started e = cc
answered (Err why) started e = cc

-- What the start of a task was answered, by the row of the task.
abbrev reported : State → ℕ → Task → Started
reported p n row = record {
  event = p.count + 1;
  info = record { task = n; job = row.job; argument = row.argument };
  done = is_task_done p row;
}

by_row : (p : State) (n : ℕ) (o : Option Task) (started : Started)
    → option_map (reported p n) o ≡ Some started
    → (started.info.task ≡ n) × (started.event ≡ p.count + 1)
by_row p n None started e = absurd (none-some started e)
by_row p n (Some row) started e =
    let same = same_Some (reported p n row) started e in (
      sym (ap (λ (x : Started). x.info.task) same),
      sym (ap (λ (x : Started). x.event) same),
    )

-- The session after the start of a task.
record Started_in (s t : Session) (started : Started) : Type 0 where
  after : t ≡ with_event s (Some (event.Start started.info.task))
  number : started.event ≡ s.state.count + 1
  may : allowed s.state (event.Start started.info.task) ≡ true

start_session : (s : Session) (started : Started)
    → reply.Started started ≡ replied reply.Started (reply_start s.state s.log)
    → Started_in s (after_step s step.Start) started
start_session s started e =
    let p : State = s.state in
    let came = answered (reply_start p s.log) started e in
    let outer = and_then_Ok (decide_start p s.log) _ started came in
    let inner = start_first p s.log outer.0 outer.1 in
    let made = room_made p s.log (event.Start inner.0) outer.0 inner.2 in
    let known = ok_or_Ok (option_and_then (started_of p) (first_ready p.work))
    refusal.NothingReady started outer.2 in
    let row = by_row p inner.0 (slice_get p.work.tasks inner.0) started
    (sym (ap (option_and_then (started_of p)) inner.1) ∙ known) in
    let decided : decide_start p s.log ≡ Ok (Some (event.Start started.info.task)) =
    outer.1 ∙ ap Ok (made ∙ ap (λ (n : ℕ). Some (event.Start n)) (sym row.0)) in
    record {
      after = ap (λ (r : Result (Option Event) Refusal). with_event s (result_unwrap_or r None))
          decided;
      number = row.1;
      may = start_allowed p s.log (event.Start started.info.task) decided;
    }

start_where : (b : Bool) (s : Session) (started : Started)
    → IsReplyWhere b s step.Start (reply.Started started)
    → Started_in s (next_session b s step.Start) started
start_where true s started is = cc
start_where false s started (inl is) = start_session s started is
start_where false s started (inr never) = let no = never.0 in cc

-- ---- what is held

-- The start of a task that is held is among the events, and if the worker knows that it is durable,
-- among the acknowledged ones. The task wasn't started before the night.
pub record Has (m : Running) (x : Held) : Type 0 where
  pub many : ℕ
  pub at : State
  pub within : many ≤ length m.book.session.history
  pub reached : run m.book.session.start (take many m.book.session.history) ≡ Some at
  pub begun : Begun at.work.tasks x.info.task
  pub event : m.book.session.start.count + many ≡ x.event
  pub saved : x.saved ≡ true → many ≤ m.acked
  pub fresh : Begun m.book.session.start.work.tasks x.info.task → ⊥

-- The same for another view of the same start.
pub has_as : (m : Running) (x y : Held) → Has m x → x.info ≡ y.info → x.event ≡ y.event
    → (y.saved ≡ true → (x.saved ≡ true) ⊎ (x.event ≤ m.book.session.start.count + m.acked))
    → Has m y
has_as m x y has info event saved = record {
  many = has.many;
  at = has.at;
  within = has.within;
  reached = has.reached;
  begun = subst (λ (i : TaskInfo). Begun has.at.work.tasks i.task) info has.begun;
  event = has.event ∙ event;
  saved = λ is. by (saved is);
  fresh = subst (λ (i : TaskInfo). Begun m.book.session.start.work.tasks i.task → ⊥) info has.fresh;
}
  where
    by : (x.saved ≡ true) ⊎ (x.event ≤ m.book.session.start.count + m.acked) → has.many ≤ m.acked
    by (inl was) = has.saved was
    by (inr counted) = let e = has.event in omega (arith, e, counted)

abbrev pub has_on : (m n : Running) (x : Held) → Grows m n → Has m x → Has n x
has_on m n x grows has =
    let old : List Event = m.book.session.history in
    let sum = length-append old grows.more in
    let same = ap (λ (l : List Event). length l) grows.history in
    let w = has.within in
    let cut : take has.many n.book.session.history ≡ take has.many old =
    ap (λ (l : List Event). take has.many l) grows.history
    ∙ take-append-le has.many old grows.more w in
    record {
      many = has.many;
      at = has.at;
      within = omega (arith, sum, same, w);
      reached = ap (λ (l : List Event). run n.book.session.start l) cut
          ∙ ap (λ (p : State). run p (take has.many old)) grows.start
          ∙ has.reached;
      begun = has.begun;
      event = ap (λ (p : State). p.count + has.many) grows.start ∙ has.event;
      saved = λ is. let a = has.saved is in let b = grows.acked in omega (arith, a, b);
      fresh = subst (λ (p : State). Begun p.work.tasks x.info.task → ⊥) (sym grows.start)
          has.fresh;
    }

-- A run in two parts.
pub parts : (p q r : State) (first second : List Event) → run p first ≡ Some q
    → run p (first ++ second) ≡ Some r → run q second ≡ Some r
parts p q r first second one all =
    sym (ap (option_and_then (λ s. run s second)) one) ∙ sym (run_join p first second) ∙ all

-- A task that was started at one moment of a night still is at a later one.
pub begun_on : (m n : Running) (task : ℕ) → Sound m → Sound n → Grows m n
    → Begun m.book.session.state.work.tasks task → Begun n.book.session.state.work.tasks task
begun_on m n task one two grows has =
    let all : run m.book.session.start (m.book.session.history ++ grows.more)
    ≡ Some n.book.session.state =
    sym (ap (λ (l : List Event). run m.book.session.start l) grows.history)
    ∙ sym (ap (λ (p : State). run p n.book.session.history) grows.start) ∙ two.reached in
    still grows.more m.book.session.state n.book.session.state task has
    (parts m.book.session.start m.book.session.state n.book.session.state m.book.session.history
    grows.more one.reached all)

-- A task that is held was started.
pub has_begun : (m : Running) (x : Held) → Sound m → Has m x
    → Begun m.book.session.state.work.tasks x.info.task
has_begun m x sound has =
    let s : Session = m.book.session in
    let all : run s.start (take has.many s.history ++ drop has.many s.history) ≡ Some s.state =
    ap (λ (l : List Event). run s.start l) (take-append-drop has.many s.history) ∙ sound.reached in
    still (drop has.many s.history) has.at s.state x.info.task has.begun
    (parts s.start has.at s.state (take has.many s.history) (drop has.many s.history) has.reached
    all)

-- A task that may be started wasn't started before.
pub not_begun : (p : State) (n : ℕ) → allowed p (event.Start n) ≡ true → Begun p.work.tasks n → ⊥
not_begun p n may has =
    both_ways (allowed p (event.Start n)) (never_again p n has) may

-- What was started before the night was still started at each moment of it.
begun_since : (m : Running) (task : ℕ) → Sound m → Begun m.book.session.start.work.tasks task
    → Begun m.book.session.state.work.tasks task
begun_since m task sound has =
    still m.book.session.history m.book.session.start m.book.session.state task has sound.reached

pub record Fresh (m next : Running) (started : Started) : Type 0 where
  pub has : Has next (begun started)
  pub new : Begun m.book.session.state.work.tasks started.info.task → ⊥

pub start_has : (m : Running) (started : Started) → Sound m
    → IsReply m.book step.Start (reply.Started started)
    → Fresh m (took m step.Start (reply.Started started)) started
start_has m started sound is =
    let s : Session = m.book.session in
    let next : Running = took m step.Start (reply.Started started) in
    let t : Session = next.book.session in
    let task : ℕ = started.info.task in
    let on = start_where m.book.broken s started is in
    let after = took_on m step.Start (reply.Started started) sound in
    let new = not_begun s.state task on.may in
    let counts = run_counts t.start t.state t.history after.0.reached in
    let one : t.state.count ≡ s.state.count + 1 =
    ap (λ (u : Session). u.state.count) on.after in
    let counted = on.number in
    record {
      has = record {
        many = length t.history;
        at = t.state;
        within = omega arith;
        reached = ap (λ (l : List Event). run t.start l) (take-length t.history)
            ∙ after.0.reached;
        begun = subst (λ (u : Session). Begun u.state.work.tasks task) (sym on.after)
            (starts s.state task on.may);
        event = omega (arith, counts, one, counted);
        saved = λ never. cc;
        fresh = λ was. new (begun_since m task sound
            (subst (λ (p : State). Begun p.work.tasks task) after.1.start was));
      };
      new = new;
    }

-- ---- what each worker holds

-- What each worker holds after a deed.
abbrev pub next_held : (ℕ → Option Held) → Deed → ℕ → Option Held
next_held h (Did other made) worker =
    if other == worker then held_after (h worker) made else h worker
next_held h (Flushed r) worker = h worker

-- The calls that each worker makes from now on may come.
abbrev pub AllMay : (ℕ → Option Held) → List Deed → Type 0
AllMay h deeds = (worker : ℕ) → EachMay (h worker) (calls_of worker deeds)

pub all_next : (h : ℕ → Option Held) (deed : Deed) (deeds : List Deed) → AllMay h (deed ∷ deeds)
    → AllMay (next_held h deed) deeds
all_next h (Flushed r) deeds all = all
all_next h (Did other made) deeds all = λ worker. by worker (other == worker) (all worker)
  where
    by : (worker : ℕ) (b : Bool)
        → EachMay (h worker)
        (if b then made ∷ calls_of worker deeds else calls_of worker deeds)
        → EachMay (if b then held_after (h worker) made else h worker) (calls_of worker deeds)
    by worker true each = each.1
    by worker false each = each

pub own_may : (h : ℕ → Option Held) (worker : ℕ) (made : Call) (deeds : List Deed)
    → AllMay h (Did worker made ∷ deeds) → May (h worker) made
own_may h worker made deeds all =
    let each = subst (λ (b : Bool). EachMay (h worker)
    (if b then made ∷ calls_of worker deeds else calls_of worker deeds))
    (eq-eqb worker worker refl) (all worker) in
    each.0

pub own_held : (h : ℕ → Option Held) (worker : ℕ) (made : Call)
    → next_held h (Did worker made) worker ≡ held_after (h worker) made
own_held h worker made =
    ap (λ (b : Bool). if b then held_after (h worker) made else h worker)
    (eq-eqb worker worker refl)

-- What is held after a deed was held before it, perhaps with fewer turns.
pub record Came (m : Running) (h : ℕ → Option Held) (worker : ℕ) (y : Held) : Type 0 where
  pub was : Held
  pub is : h worker ≡ Some was
  pub info : was.info ≡ y.info
  pub event : was.event ≡ y.event
  pub turns : was.turns ≤ y.turns
  pub saved : y.saved ≡ true
      → (was.saved ≡ true) ⊎ (was.event ≤ m.book.session.start.count + m.acked)

-- Or it was just started.
pub record New (deed : Deed) (worker : ℕ) (y : Held) : Type 0 where
  pub started : Started
  pub is_start : deed ≡ Did worker (call.Start (Ok started))
  pub is : y ≡ begun started

came_same : (m : Running) (h : ℕ → Option Held) (worker : ℕ) (y : Held) → h worker ≡ Some y
    → Came m h worker y
came_same m h worker y is = record {
  was = y;
  is = is;
  info = refl;
  event = refl;
  turns = omega arith;
  saved = λ saved. inl saved;
}

came_saved : (m next : Running) (h : ℕ → Option Held) (worker durable : ℕ) (y : Held)
    → Saves (h worker) durable → durable ≡ m.book.session.start.count + m.acked → next ≡ m
    → save (h worker) ≡ Some y → Came next h worker y
came_saved m next h worker durable y may counted same is =
    let left = same_Some (record may.of { saved = true }) y (sym (ap save may.is) ∙ is) in
    let enough = may.counted in
    record {
      was = may.of;
      is = may.is;
      info = ap (λ (x : Held). x.info) left;
      event = ap (λ (x : Held). x.event) left;
      turns = let e : may.of.turns ≡ y.turns = ap (λ (x : Held). x.turns) left in omega (arith, e);
      saved = λ saved. inr (subst
          (λ (n : Running). may.of.event ≤ n.book.session.start.count + n.acked) (sym same)
          (omega (arith, enough, counted)));
    }

came_turned : (next : Running) (h : ℕ → Option Held) (worker : ℕ) (info : TaskInfo) (number : ℕ)
    (y : Held) → Turns (h worker) info number → turn_on (h worker) ≡ Some y → Came next h worker y
came_turned next h worker info number y may is =
    let left = same_Some (record may.of { turns = suc may.of.turns }) y
    (sym (ap turn_on may.is) ∙ is) in
    record {
      was = may.of;
      is = may.is;
      info = ap (λ (x : Held). x.info) left;
      event = ap (λ (x : Held). x.event) left;
      turns = let e : suc may.of.turns ≡ y.turns = ap (λ (x : Held). x.turns) left in
          omega (arith, e);
      saved = λ saved. inl (ap (λ (x : Held). x.saved) left ∙ saved);
    }

comes_own : (m next : Running) (h : ℕ → Option Held) (worker : ℕ) (made : Call) (y : Held)
    → May (h worker) made → Happens m (Did worker made) next → held_after (h worker) made ≡ Some y
    → Came next h worker y ⊎ New (Did worker made) worker y
comes_own m next h worker (call.Start (Ok started)) y may is held =
    inr (record { started = started; is_start = refl; is = sym (same_Some (begun started) y held) })
comes_own m next h worker (call.Start (Err why)) y may is held =
    inl (came_same next h worker y held)
comes_own m next h worker (call.Save event (Ok durable)) y may is held =
    inl (came_saved m next h worker durable y may is.0 is.1 held)
comes_own m next h worker (call.Save event (Err why)) y may is held =
    inl (came_same next h worker y held)
comes_own m next h worker (call.Make place info number done answer) y may is held =
    inl (came_turned next h worker info number y may held)
comes_own m next h worker (call.Handles place name answer) y may is held =
    inl (came_same next h worker y held)
comes_own m next h worker (call.Gate task number answer) y may is held =
    inl (came_same next h worker y held)
comes_own m next h worker (call.Scope task answer) y may is held =
    inl (came_same next h worker y held)
comes_own m next h worker (call.Finish task how r) y may is held =
    inl (came_same next h worker y held)
comes_own m next h worker (call.Report task) y may is held =
    inl (came_same next h worker y held)
comes_own m next h worker (call.Wake event) y may is held =
    inl (came_same next h worker y held)
comes_own m next h worker (call.Wait event r) y may is held =
    inl (came_same next h worker y held)

pub comes : (m next : Running) (h : ℕ → Option Held) (deed : Deed) (deeds : List Deed)
    (worker : ℕ) (y : Held) → AllMay h (deed ∷ deeds) → Happens m deed next
    → next_held h deed worker ≡ Some y → Came next h worker y ⊎ New deed worker y
comes m next h (Flushed r) deeds worker y all is held = inl (came_same next h worker y held)
comes m next h (Did other made) deeds worker y all is held = by (other == worker) refl
  where
    by : (b : Bool) → (other == worker) ≡ b → Came next h worker y ⊎ New (Did other made) worker y
    by false apart =
        inl (came_same next h worker y
        (sym (ap (λ (b : Bool). if b then held_after (h worker) made else h worker) apart) ∙ held))
    by true same =
        let own : worker ≡ other = sym (eqb-true other worker same) in
        let P : ℕ → Type 0 = λ v. held_after (h v) made ≡ Some y
        → Came next h v y ⊎ New (Did other made) v y in
        subst P (sym own)
        (comes_own m next h other made y (own_may h other made deeds all) is)
        (sym (ap (λ (b : Bool). if b then held_after (h worker) made else h worker) same) ∙ held)

-- ---- through the night

pub record Inv (m : Running) (h : ℕ → Option Held) : Type 0 where
  pub sound : Sound m
  pub has : (worker : ℕ) (x : Held) → h worker ≡ Some x → Has m x
  pub alone : (one other : ℕ) (x y : Held) → h one ≡ Some x → h other ≡ Some y
      → x.info.task ≡ y.info.task → other ≡ one

-- What a start leaves, where the deed is one.
pub started_has : (m next : Running) (deed : Deed) (worker : ℕ) (y : Held) → Sound m
    → Happens m deed next → (new : New deed worker y) → Fresh m next new.started
started_has m next deed worker y sound is new =
    let happens = subst (λ (d : Deed). Happens m d next) new.is_start is in
    subst (λ (n : Running). Fresh m n new.started) (sym happens.1)
    (start_has m new.started sound happens.0)

-- A task that was just started isn't one that was held.
apart : (m next : Running) (h : ℕ → Option Held) (deed : Deed) (worker other : ℕ) (x y : Held)
    → Inv m h → Happens m deed next → New deed worker x → Came next h other y
    → x.info.task ≡ y.info.task → ⊥
apart m next h deed worker other x y inv is new came same =
    let fresh = started_has m next deed worker x inv.sound is new in
    let task : came.was.info.task ≡ new.started.info.task =
    ap (λ (i : TaskInfo). i.task) came.info ∙ sym same
    ∙ ap (λ (z : Held). z.info.task) new.is in
    fresh.new (subst (λ (n : ℕ). Begun m.book.session.state.work.tasks n) task
    (has_begun m came.was inv.sound (inv.has other came.was came.is)))

same_worker : (deed : Deed) (one other : ℕ) (x y : Held) → New deed one x → New deed other y
    → other ≡ one
same_worker deed one other x y new again =
    let both : Did one (call.Start (Ok new.started)) ≡ Did other (call.Start (Ok again.started)) =
    sym new.is_start ∙ again.is_start in
    cc

pub inv_next : (m next : Running) (h : ℕ → Option Held) (deed : Deed) (deeds : List Deed)
    → Inv m h → Happens m deed next → AllMay h (deed ∷ deeds) → Inv next (next_held h deed)
inv_next m next h deed deeds inv is all = record {
  sound = after.0;
  has = λ worker y held. has worker y (comes m next h deed deeds worker y all is held);
  alone = λ one other x y first second same. alone one other x y
      (comes m next h deed deeds one x all is first)
      (comes m next h deed deeds other y all is second) same;
}
  where
    after : Sound next × Grows m next
    after = deed_on m next deed inv.sound is

    has : (worker : ℕ) (y : Held) → Came next h worker y ⊎ New deed worker y → Has next y
    has worker y (inl came) =
        has_as next came.was y (has_on m next came.was after.1 (inv.has worker came.was came.is))
        came.info came.event came.saved
    has worker y (inr new) =
        subst (λ (x : Held). Has next x) (sym new.is)
        (started_has m next deed worker y inv.sound is new).has

    alone : (one other : ℕ) (x y : Held) → Came next h one x ⊎ New deed one x
        → Came next h other y ⊎ New deed other y → x.info.task ≡ y.info.task → other ≡ one
    alone one other x y (inl came) (inl too) same =
        inv.alone one other came.was too.was came.is too.is
        (ap (λ (i : TaskInfo). i.task) came.info ∙ same
        ∙ sym (ap (λ (i : TaskInfo). i.task) too.info))
    alone one other x y (inl came) (inr new) same =
        absurd (apart m next h deed other one y x inv is new came (sym same))
    alone one other x y (inr new) (inl came) same =
        absurd (apart m next h deed one other x y inv is new came same)
    alone one other x y (inr new) (inr again) same = same_worker deed one other x y new again

-- A moment of a night, at which this holds, and after which these deeds happen.
pub record Moment (P : Running → (ℕ → Option Held) → Type 0) (deeds : List Deed) (last : Running)
    : Type 0 where
  pub m : Running
  pub held : ℕ → Option Held
  pub holds : P m held
  pub happen : Happen m deeds last
  pub may : AllMay held deeds

-- What each deed keeps holds after the first deeds.
pub until : (P : Running → (ℕ → Option Held) → Type 0)
    → ((m next : Running) (h : ℕ → Option Held) (deed : Deed) (deeds : List Deed) → P m h
    → Happens m deed next → AllMay h (deed ∷ deeds) → P next (next_held h deed))
    → (m last : Running) (h : ℕ → Option Held) (first later : List Deed) → P m h
    → Happen m (first ++ later) last → AllMay h (first ++ later) → Moment P later last
until P keeps m last h [] later holds happen may = record {
  m = m;
  held = h;
  holds = holds;
  happen = happen;
  may = may;
}
until P keeps m last h (deed ∷ first) later holds (next, one, rest) may =
    until P keeps next last (next_held h deed) first later
    (keeps m next h deed (first ++ later) holds one may) rest
    (all_next h deed (first ++ later) may)
