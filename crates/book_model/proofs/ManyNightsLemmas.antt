-- Many sessions of the machine, and the states to which they lead.
use Rattle.run_model.proofs.Common.{◌≡◌, ◌+◌, ◌-◌, ◌≤◌, ◌++◌, ◌∷◌, [], ℕ, Bool, true, false, List}
use Rattle.run_model.proofs.Common.{length, take, drop, map, Option, Some, None, if◌then◌else◌}
use Rattle.run_model.proofs.Common.{refl, sym, ap, subst, ◌∙◌, arith, append_assoc, length-append}
use Rattle.run_model.proofs.Common.{unwrap_or, flat_map, take-append-drop, run, Event, Session}
use Rattle.run_model.proofs.Common.{accepted, acknowledged, event_of_step, session_after}
use Rattle.run_model.proofs.Common.{with_event, State}
use Rattle.run_model.specs.declared.answers.Reply.{Reply}
use Rattle.run_model.specs.declared.commands.Step.{Step}
use Rattle.run_model.specs.Session.{is_ack}
use Rattle.run_disk.specs.Disk.{DiskState, IsDisk}
use Rattle.model_laws.proofs.Stepping.{accepted_history, accepted_start}
use Rattle.book_model.specs.Machines.{
  GoesOn,
  Machine,
  Move,
  Running,
  Runs,
  Crash,
  CrashesAt,
  Stored,
}
use Rattle.book_model.specs.Machines.{Take, TakesAll, opened_at, took}
use Rattle.book_model.specs.ManyNights.{LeadOver, Leads, LeadsOver, Night, InVain, Spent}
use Rattle.book_model.specs.ManyNights.{StoresAfterNights, answers_of, moves_of, steps_of}
use Rattle.book_model.specs.Nights.{opened_from}
use Rattle.book_model.specs.Plays.{IsReply, Plays, acked_of, last_acked, next_session, taken}
use Rattle.book_model.specs.Standing.{Closed, DoesAll, LiesWith, StandsAs}
use Rattle.book_model.specs.Stores.{restarted}
use Rattle.book_model.proofs.PrefixLemmas.{take_after}
use Rattle.book_model.proofs.Machining.{acked_count, all_as}
use Rattle.book_model.proofs.NightLemmas.{reported_enough}
use Rattle.book_model.proofs.Playing.{accepted_left, ack_is, acked_is, acknowledged_first}
use Rattle.book_model.proofs.Playing.{acknowledged_reported}
use Rattle.book_model.proofs.Stepping.{reached_after, reported_last}

-- ---- what steps leave of the machine

pub takes_plays : (m end : Running) (steps : List Step) (answers : List Reply)
    → TakesAll m steps answers end → Plays m.book steps answers end.book
takes_plays m end [] [] p = ap (λ (n : Running). n.book) p
takes_plays m end [] (r ∷ answers) p = absurd p
takes_plays m end (x ∷ steps) [] p = absurd p
takes_plays m end (x ∷ steps) (r ∷ answers) (reply, rest) =
    (reply, takes_plays (took m x r) end steps answers rest)

pub takes_join : (m middle end : Running) (steps more : List Step) (answers others : List Reply)
    → TakesAll m steps answers middle → TakesAll middle more others end
    → TakesAll m (steps ++ more) (answers ++ others) end
takes_join m middle end [] more [] others p q = subst (λ n. TakesAll n more others end) p q
takes_join m middle end [] more (r ∷ answers) others p q = absurd p
takes_join m middle end (x ∷ steps) more [] others p q = absurd p
takes_join m middle end (x ∷ steps) more (r ∷ answers) others (reply, rest) q =
    (reply, takes_join (took m x r) middle end steps more answers others rest q)

takes_session : (m end : Running) (steps : List Step) (answers : List Reply)
    → TakesAll m steps answers end
    → end.book.session ≡ session_after m.book.session (taken steps answers)
takes_session m end steps answers takes =
    accepted_left m.book end.book steps answers (takes_plays m end steps answers takes)

pub takes_history : (m end : Running) (steps : List Step) (answers : List Reply)
    → TakesAll m steps answers end → end.book.session.history
    ≡ m.book.session.history ++ accepted m.book.session (taken steps answers)
takes_history m end steps answers takes =
    ap (λ (s : Session). s.history) (takes_session m end steps answers takes)
    ∙ accepted_history m.book.session (taken steps answers)

-- ---- what is acknowledged

-- The events since the opening, which had this count, are those that the session counts.
abbrev Counts : ℕ → Session → Type 0
Counts n s = n + length s.history ≡ s.state.count

after_counts : (n : ℕ) (b : Bool) (s : Session) (x : Step) → Counts n s
    → Counts n (next_session b s x)
after_counts n true s x counts = counts
after_counts n false s x counts = by (event_of_step s x)
  where
    by : (o : Option Event) → Counts n (with_event s o)
    by None = counts
    by (Some made) =
        let sum = length-append s.history (made ∷ []) in
        omega (arith, counts, sum)

acked_once : (n : ℕ) (m : Running) (x : Step) (r : Reply) → Counts n m.book.session
    → IsReply m.book x r
    → n + (took m x r).acked ≡ unwrap_or (acked_of r) (n + m.acked)
acked_once n m x r counts reported = go (acked_of r) refl
  where
    go : (o : Option ℕ) → acked_of r ≡ o
        → n + (if is_ack r then length m.book.session.history else m.acked)
        ≡ unwrap_or (acked_of r) (n + m.acked)
    go None none =
        ap (λ k. n + (if k then length m.book.session.history else m.acked)) (acked_is r none)
        ∙ sym (ap (λ o. unwrap_or o (n + m.acked)) none)
    go (Some k) some =
        let all : k ≡ m.book.session.state.count =
        acked_count m.book.broken m.book.session x r k reported some in
        let whole : n + length m.book.session.history ≡ k = omega (arith, counts, all) in
        ap (λ k. n + (if k then length m.book.session.history else m.acked)) (ack_is r k some)
        ∙ whole ∙ sym (ap (λ o. unwrap_or o (n + m.acked)) some)

takes_acked : (n : ℕ) (m end : Running) (steps : List Step) (answers : List Reply)
    → Counts n m.book.session → TakesAll m steps answers end
    → n + end.acked ≡ unwrap_or (last_acked answers) (n + m.acked)
takes_acked n m end [] [] counts p = ap (λ (k : Running). n + k.acked) p
takes_acked n m end [] (r ∷ answers) counts p = absurd p
takes_acked n m end (x ∷ steps) [] counts p = absurd p
takes_acked n m end (x ∷ steps) (r ∷ answers) counts (reply, rest) =
    takes_acked n (took m x r) end steps answers
    (after_counts n m.book.broken m.book.session x counts) rest
    ∙ ap (λ k. unwrap_or (last_acked answers) k) (acked_once n m x r counts reply)
    ∙ reported_last answers r (n + m.acked)

-- ---- from the opening on

pub taken_state : (p : State) (m : Running) (steps : List Step) (answers : List Reply)
    → TakesAll (opened_at p) steps answers m
    → run m.book.session.start m.book.session.history ≡ Some m.book.session.state
taken_state p m steps answers takes =
    subst (λ (s : Session). run s.start s.history ≡ Some s.state)
    (sym (takes_session (opened_at p) m steps answers takes))
    (reached_after (opened_from p) (taken steps answers) refl)

pub taken_acked : (p : State) (m : Running) (steps : List Step) (answers : List Reply)
    → TakesAll (opened_at p) steps answers m → m.acked ≤ length m.book.session.history
taken_acked p m steps answers takes = go (last_acked answers) refl
  where
    none : (restarted p).count + 0 ≡ (restarted p).count
    none = omega arith

    reported : (restarted p).count + m.acked ≡ unwrap_or (last_acked answers) (restarted p).count
    reported = takes_acked (restarted p).count (opened_at p) m steps answers none takes
        ∙ ap (λ n. unwrap_or (last_acked answers) n) none

    plays : Plays (opened_at p).book steps answers m.book
    plays = takes_plays (opened_at p) m steps answers takes

    go : (o : Option ℕ) → last_acked answers ≡ o → m.acked ≤ length m.book.session.history
    go None is =
        let first : (restarted p).count + m.acked ≡ (restarted p).count =
        reported ∙ ap (λ o. unwrap_or o (restarted p).count) is in
        omega (arith, first)
    go (Some n) is =
        let last : (restarted p).count + m.acked ≡ n =
        reported ∙ ap (λ o. unwrap_or o (restarted p).count) is in
        let counted = acknowledged_reported (opened_at p).book m.book steps answers n plays is in
        let order = acknowledged_first (opened_at p).book m.book steps answers plays in
        let sum = length-append (acknowledged (opened_from p) steps answers) order.0 in
        let whole : length m.book.session.history
        ≡ length (acknowledged (opened_from p) steps answers ++ order.0) =
        ap (λ (l : List Event). length l)
        (takes_history (opened_at p) m steps answers takes ∙ order.1) in
        omega (arith, last, counted, sum, whole)

-- ---- one night

-- What steps leave of the machine that was just opened.
record IsSpent (p : State) (steps : List Step) (answers : List Reply) (end : Running)
    : Type 0 where
  pub start : end.book.session.start ≡ restarted p
  pub history : end.book.session.history ≡ accepted (opened_from p) (taken steps answers)
  pub first : List Event
  pub in_order : accepted (opened_from p) (taken steps answers)
      ≡ acknowledged (opened_from p) steps answers ++ first
  pub enough : length (acknowledged (opened_from p) steps answers) ≤ end.acked

spent : (p : State) (end : Running) (steps : List Step) (answers : List Reply)
    → TakesAll (opened_at p) steps answers end → IsSpent p steps answers end
spent p end steps answers takes =
    let m = opened_at p in
    let plays = takes_plays m end steps answers takes in
    let order = acknowledged_first m.book end.book steps answers plays in
    let none : (restarted p).count + 0 ≡ (restarted p).count = omega arith in
    let reported : (restarted p).count + end.acked
    ≡ unwrap_or (last_acked answers) (restarted p).count =
    takes_acked (restarted p).count m end steps answers none takes
    ∙ ap (λ n. unwrap_or (last_acked answers) n) none in
    let enough = reported_enough m.book end.book steps answers (restarted p).count
    ((restarted p).count + end.acked) plays refl reported in
    record {
      start = ap (λ (s : Session). s.start) (takes_session m end steps answers takes)
          ∙ accepted_start (opened_from p) (taken steps answers);
      history = takes_history m end steps answers takes;
      first = order.0;
      in_order = order.1;
      enough = omega (arith, enough);
    }

led_over : (p q : State) (m : Running) (calls : List (Step × Reply)) (more : List Step)
    → TakesAll (opened_at p) (steps_of calls) (answers_of calls) m → CrashesAt m more q
    → LeadsOver p calls more q
led_over p q m calls more takes crashes =
    let s = opened_from p in
    let steps = steps_of calls in
    let answers = answers_of calls in
    let acks = acknowledged s steps answers in
    let one = spent p m steps answers takes in
    let all = spent p crashes.last (steps ++ more) (answers ++ crashes.unreported)
    (takes_join
    (opened_at p) m crashes.last steps more answers crashes.unreported takes crashes.takes) in
    let later = accepted m.book.session (taken more crashes.unreported) in
    let rest = one.first ++ later in
    let order : crashes.last.book.session.history ≡ acks ++ rest =
    takes_history m crashes.last more crashes.unreported crashes.takes
    ∙ ap (λ l. l ++ later) (one.history ∙ one.in_order)
    ∙ append_assoc acks one.first later in
    let many = crashes.prefix.many in
    let enough : length acks ≤ many = omega (arith, one.enough, crashes.prefix.enough) in
    let k = many - length acks in
    record {
      unreported = crashes.unreported;
      further = take k rest;
      lost = drop k rest;
      in_order = sym all.history ∙ order
          ∙ ap (λ l. acks ++ l) (sym (take-append-drop k rest));
      reached = ap (λ l. run (restarted p) l)
          (sym (take_after many crashes.last.book.session.history acks rest order enough))
          ∙ subst (λ b. run b (take many crashes.last.book.session.history) ≡ Some q) one.start
          crashes.prefix.reached;
    }

-- ---- the moves of nights

-- Moves fall into two parts.
record Parts (m : Machine) (first second : List Move) (n : Machine) : Type 0 where
  pub middle : Machine
  pub before : GoesOn m first middle
  pub behind : GoesOn middle second n

parts : (m n : Machine) (first second : List Move) → GoesOn m (first ++ second) n
    → Parts m first second n
parts m n [] second p = record { middle = m; before = refl; behind = p }
parts m n (move ∷ first) second (next, one, rest) =
    let more = parts next n first second rest in
    record { middle = more.middle; before = (next, one, more.before); behind = more.behind }

-- The moves of calls are steps that are taken.
record Called (m : Running) (calls : List (Step × Reply)) (n : Machine) : Type 0 where
  pub end : Running
  pub takes : TakesAll m (steps_of calls) (answers_of calls) end
  pub is : n ≡ Runs end

called : (m : Running) (n : Machine) (calls : List (Step × Reply))
    → GoesOn (Runs m) (map (λ call. Take call.0 call.1) calls) n → Called m calls n
called m n [] p = record { end = m; takes = refl; is = p }
called m n ((x, r) ∷ calls) (Stored q, one, rest) = absurd one
called m n ((x, r) ∷ calls) (Runs next, (reply, same), rest) =
    let more = called (took m x r) n calls
    (subst (λ k. GoesOn (Runs k) (map (λ call. Take call.0 call.1) calls) n) same rest) in
    record { end = more.end; takes = (reply, more.takes); is = more.is }

-- A complete session: the steps that were answered, and then the crash.
pub record WasSpent (p : State) (calls : List (Step × Reply)) (more : List Step) (n : Machine)
    : Type 0 where
  pub end : Running
  pub takes : TakesAll (opened_at p) (steps_of calls) (answers_of calls) end
  pub state : State
  pub crashes : CrashesAt end more state
  pub is : n ≡ Stored state

stopped : (p : State) (n : Machine) (calls : List (Step × Reply)) (more : List Step)
    (end : Running) → TakesAll (opened_at p) (steps_of calls) (answers_of calls) end
    → GoesOn (Runs end) (Crash more ∷ []) n → WasSpent p calls more n
stopped p n calls more end takes (Stored q, crashes, last) =
    record { end = end; takes = takes; state = q; crashes = crashes; is = last }
stopped p n calls more end takes (Runs k, crashes, last) = absurd crashes

pub was_spent : (p : State) (n : Machine) (calls : List (Step × Reply)) (more : List Step)
    → GoesOn (Stored p) (moves_of (Spent calls more)) n → WasSpent p calls more n
was_spent p n calls more (Stored q, one, rest) = absurd one
was_spent p n calls more (Runs m, one, rest) =
    let begun = subst
    (λ k. GoesOn (Runs k) (map (λ call. Take call.0 call.1) calls ++ Crash more ∷ []) n) one
    rest in
    let two = parts (Runs (opened_at p)) n (map (λ call. Take call.0 call.1) calls)
    (Crash more ∷ []) begun in
    let row = called (opened_at p) two.middle calls two.before in
    stopped p n calls more row.end row.takes
    (subst (λ k. GoesOn k (Crash more ∷ []) n) row.is two.behind)

-- And the other way round.
moves_called : (m end : Running) (n : Machine) (calls : List (Step × Reply)) (moves : List Move)
    → TakesAll m (steps_of calls) (answers_of calls) end → GoesOn (Runs end) moves n
    → GoesOn (Runs m) (map (λ call. Take call.0 call.1) calls ++ moves) n
moves_called m end n [] moves takes rest = subst (λ k. GoesOn (Runs k) moves n) takes rest
moves_called m end n ((x, r) ∷ calls) moves (reply, takes) rest =
    (Runs (took m x r), (reply, refl), moves_called (took m x r) end n calls moves takes rest)

pub spends : (p q : State) (end : Running) (calls : List (Step × Reply)) (more : List Step)
    → TakesAll (opened_at p) (steps_of calls) (answers_of calls) end → CrashesAt end more q
    → GoesOn (Stored p) (moves_of (Spent calls more)) (Stored q)
spends p q end calls more takes crashes = (
  Runs (opened_at p),
  refl,
  moves_called (opened_at p) end (Stored q) calls (Crash more ∷ []) takes
      (Stored q, crashes, refl),
)

pub joined_moves : (m middle n : Machine) (first second : List Move) → GoesOn m first middle
    → GoesOn middle second n → GoesOn m (first ++ second) n
joined_moves m middle n [] second p q = subst (λ k. GoesOn k second n) p q
joined_moves m middle n (move ∷ first) second (next, one, rest) q =
    (next, one, joined_moves next middle n first second rest q)

-- A night leads from what is stored to what is stored.
record NightLeads (p : State) (night : Night) (n : Machine) : Type 0 where
  pub state : State
  pub leads : Leads p night state
  pub is : n ≡ Stored state

night_leads : (p : State) (n : Machine) (night : Night) → GoesOn (Stored p) (moves_of night) n
    → NightLeads p night n
night_leads p n InVain (Stored q, one, rest) = record { state = q; leads = one; is = rest }
night_leads p n InVain (Runs m, one, rest) = absurd one
night_leads p n (Spent calls more) goes =
    let spent = was_spent p n calls more goes in
    record {
      state = spent.state;
      leads = led_over p spent.state spent.end calls more spent.takes spent.crashes;
      is = spent.is;
    }

-- So many nights.
record Nights (p : State) (nights : List Night) (n : Machine) : Type 0 where
  pub state : State
  pub leads : LeadOver p nights state
  pub is : n ≡ Stored state

nights_lead : (p : State) (n : Machine) (nights : List Night)
    → GoesOn (Stored p) (flat_map moves_of nights) n → Nights p nights n
nights_lead p n [] rest = record { state = p; leads = refl; is = rest }
nights_lead p n (night ∷ nights) goes =
    let two = parts (Stored p) n (moves_of night) (flat_map moves_of nights) goes in
    let first = night_leads p two.middle night two.before in
    let more = nights_lead first.state n nights
    (subst (λ k. GoesOn k (flat_map moves_of nights) n) first.is two.behind) in
    record {
      state = more.state;
      leads = (first.state, first.leads, more.leads);
      is = more.is;
    }

pub same_stored : (p q : State) → Stored p ≡ Stored q → p ≡ q
same_stored p q e = cc

pub stored_nights : (p q : State) (nights : List Night)
    → GoesOn (Stored p) (flat_map moves_of nights) (Stored q) → LeadOver p nights q
stored_nights p q nights goes =
    let all = nights_lead p (Stored q) nights goes in
    subst (λ s. LeadOver p nights s) (sym (same_stored q all.state all.is)) all.leads

pub book_nights : {D : Type 0} (state : D → DiskState) (given next : D) (p : State)
    (nights : List Night) → ((d : D) → IsDisk (state d)) → LiesWith state given p
    → DoesAll state (Closed given) (flat_map moves_of nights) (Closed next)
    → StoresAfterNights p nights (state next).now
book_nights state given next p nights disk lies does =
    let all = all_as state (Closed given) (Closed next) (flat_map moves_of nights) (Stored p) disk
    lies does in
    let led = nights_lead p all.end nights all.goes in
    let stands : LiesWith state next led.state =
    subst (λ m. StandsAs state (Closed next) m) led.is all.stands in
    record { state = led.state; stores = stands.stores; leads = led.leads }
