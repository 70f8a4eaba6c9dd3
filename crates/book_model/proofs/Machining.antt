-- A book over a disk makes the moves of the machine that it is.
use Rattle.run_model.proofs.Common.{◌≡◌, ◌∷◌, [], ℕ, Bool, true, false, List, length, Option, Some}
use Rattle.run_model.proofs.Common.{None, Ok, if◌then◌else◌, inl, inr, refl, sym, ap, subst, ◌∙◌}
use Rattle.run_model.proofs.Common.{arith, unwrap_or, IsPrefix, run, Session, State}
use Rattle.run_model.specs.declared.answers.Reply.{Reply}
use Rattle.run_model.specs.declared.commands.Step.{Step}
use Rattle.run_model.specs.Session.{is_ack}
use Rattle.run_disk.specs.Disk.{DiskState, IsAtRest, IsDisk}
use Rattle.model_laws.proofs.RunLemmas.{run_counts}
use Rattle.book_model.specs.Books.{BookView, CarriesOn, IsOpened, IsReached, acked}
use Rattle.book_model.specs.Machines.{Goes, Machine, Move, Open, OpenInVain, Running, Runs, Crash}
use Rattle.book_model.specs.Machines.{Stored, Take, TakesAll, opened_at, took}
use Rattle.book_model.specs.Openings.{Opens}
use Rattle.book_model.specs.Plays.{IsReply, IsReplyWhere, Playing, acked_of, after_answer}
use Rattle.book_model.specs.Standing.{Closed, CutsOpening, CutsSteps, Does, DoesAll, GoesAs}
use Rattle.book_model.specs.Standing.{HoldsAs, LiesWith, Opened, Standing, StandsAs}
use Rattle.book_model.specs.Steps.{AnswersStep, StepsOn, playing}
use Rattle.book_model.specs.Stores.{StoresPrefix, StoresOpened, restarted}
use Rattle.book_model.proofs.BookLemmas.{left_any_moment, safe_on}
use Rattle.book_model.proofs.NightLemmas.{opened_playing, opened_safe}
use Rattle.book_model.proofs.Playing.{ack_is, acked_is, some_none, sound_acked}
use Rattle.book_model.proofs.Rows.{row_carries}
use Rattle.book_model.proofs.Stepping.{step_left, steps_play}
use Rattle.book_model.proofs.Storing.{stores_one}

-- ---- a step

-- The count of the session is acknowledged after an Acked, which a broken book never answers.
pub acked_count : (b : Bool) (s : Session) (x : Step) (r : Reply) (n : ℕ)
    → IsReplyWhere b s x r → acked_of r ≡ Some n → n ≡ s.state.count
acked_count true s x r n reported some = absurd
    (some_none (acked_of r) n some (ap acked_of reported))
acked_count false s x r n reported some = (sound_acked s x r n reported some).0

-- As many events are acknowledged after a step as the machine says.
acked_after : {D : Type 0} (old new : BookView D) (x : Step) (r : Reply) (n : ℕ) → IsReached old
    → IsReply (playing old) x r → new.session.start ≡ old.session.start
    → new.durable ≡ unwrap_or (acked_of r) old.durable → n ≡ acked old
    → (if is_ack r then length old.session.history else n) ≡ acked new
acked_after old new x r n is reported start durable was = go (acked_of r) refl
  where
    count : new.session.start.count ≡ old.session.start.count
    count = ap (λ (q : State). q.count) start

    go : (o : Option ℕ) → acked_of r ≡ o
        → (if is_ack r then length old.session.history else n) ≡ acked new
    go None none =
        let same : new.durable ≡ old.durable =
        durable ∙ ap (λ o. unwrap_or o old.durable) none in
        let stays : n ≡ acked new = omega (arith, same, count, was) in
        ap (λ k. if k then length old.session.history else n) (acked_is r none) ∙ stays
    go (Some k) some =
        let last : new.durable ≡ k = durable ∙ ap (λ o. unwrap_or o old.durable) some in
        let all = acked_count old.journal.broken old.session x r k reported some in
        let counts = run_counts old.session.start old.session.state old.session.history is in
        let whole : length old.session.history ≡ acked new =
        omega (arith, last, all, counts, count) in
        ap (λ k. if k then length old.session.history else n) (ack_is r k some) ∙ whole

-- The machine takes the step, and afterwards the book holds the same as the machine.
pub record TookAs {D : Type 0} (state : D → DiskState) (m : Running) (x : Step) (r : Reply)
    (new : BookView D) : Type 0 where
  pub reply : IsReply m.book x r
  pub holds : HoldsAs state new (took m x r)

pub record TakenAs {D : Type 0} (state : D → DiskState) (m : Running) (steps : List Step)
    (answers : List Reply) (new : BookView D) : Type 0 where
  pub end : Running
  pub takes : TakesAll m steps answers end
  pub holds : HoldsAs state new end

-- The machine makes the move, and afterwards the book is in the same situation as the machine.
pub record MovesAs {D : Type 0} (state : D → DiskState) (m : Machine) (move : Move)
    (new : Standing D) : Type 0 where
  pub next : Machine
  pub goes : Goes m move next
  pub stands : StandsAs state new next

module _ {D : Type 0} (state : D → DiskState) where
  pub took_as : (h new : BookView D) (m : Running) (x : Step) (r : Reply) → HoldsAs state h m
      → AnswersStep state h x r new → CarriesOn state h new → TookAs state m x r new
  took_as h new m x r is answers on =
      let left = step_left state h x r new answers in
      let reported = steps_play state h new (x ∷ []) (r ∷ []) is.reached (new, answers, refl) in
      record {
        reply = subst (λ b. IsReply b x r) (sym is.book) reported.plays.0;
        holds = record {
          safe = safe_on state h new on is.safe;
          durable = on.images;
          reached = reported.reached;
          book = ap (λ b. after_answer b x r) is.book ∙ sym reported.plays.1;
          acked = ap (λ (b : Playing). if is_ack r then length b.session.history else m.acked)
              is.book
              ∙ acked_after h new x r m.acked is.reached reported.plays.0 left.start left.durable
              is.acked;
        };
      }

  pub row_as : (h last : BookView D) (m : Running) (steps : List Step) (answers : List Reply)
      → HoldsAs state h m → StepsOn state h steps answers last
      → TakenAs state m steps answers last
  row_as h last m [] [] is p = record {
    end = m;
    takes = refl;
    holds = subst (λ g. HoldsAs state g m) (sym p) is;
  }
  row_as h last m [] (r ∷ answers) is p = absurd p
  row_as h last m (x ∷ steps) [] is p = absurd p
  row_as h last m (x ∷ steps) (r ∷ answers) is (next, one, on, rest) =
      let first = took_as h next m x r is one on in
      let more = row_as next last (took m x r) steps answers first.holds rest in
      record { end = more.end; takes = (first.reply, more.takes); holds = more.holds }

  -- ---- an opening

  pub opened_as : (given : D) (p : State) (h : BookView D) → LiesWith state given p
      → Opens state given (Ok h) → HoldsAs state h (opened_at p)
  opened_as given p h lies opens =
      let found = opens.answer.found.stores lies.honest in
      let same = stores_one (state given).now opens.answer.stored p found lies.stores in
      let is : IsOpened state given p h =
      subst (λ q. IsOpened state given q h) same opens.answer.opened in
      let none : acked h ≡ 0 = omega (arith, is.durable) in
      record {
        safe = opened_safe state given p h lies.honest lies.rest is;
        durable = λ safe x left.
            subst (λ (s : Session). StoresPrefix s.start s.history (acked h) x) (sym is.session)
            (record {
              state = restarted p;
              prefix = record {
                many = 0;
                enough = omega (arith, none);
                within = omega arith;
                reached = refl;
              };
              stores = opens.now lies.honest lies.rest p lies.stores x left;
            });
        reached = subst (λ (s : Session). run s.start s.history ≡ Some s.state)
            (sym is.session) refl;
        book = sym (opened_playing state given p h is);
        acked = sym none;
      }

  vain_by : (next : D) (p : State) → (state next).honest → IsAtRest (state next)
      → StoresOpened p (state next).now → MovesAs state (Stored p) OpenInVain (Closed next)
  vain_by next p honest rest (inl same) = record {
    next = Stored p;
    goes = inl refl;
    stands = record { honest = honest; rest = rest; stores = same };
  }
  vain_by next p honest rest (inr again) = record {
    next = Stored (restarted p);
    goes = inr refl;
    stands = record { honest = honest; rest = rest; stores = again };
  }

  vain_as : (given next : D) (p : State) → LiesWith state given p
      → CutsOpening state given next → MovesAs state (Stored p) OpenInVain (Closed next)
  vain_as given next p lies cut =
      vain_by next p cut.finds.honest cut.finds.rest
      ((cut.opens.any_moment lies.honest lies.rest p lies.stores).each (state next).now
      cut.finds.content)

  -- ---- a stop

  stop_as : (h : BookView D) (next : D) (m : Running) (more : List Step)
      → ((d : D) → IsDisk (state d)) → HoldsAs state h m → CutsSteps state h more next
      → MovesAs state (Runs m) (Crash more) (Closed next)
  stop_as h next m more disk is cut =
      let row = row_as h cut.last m more cut.unreported is cut.takes in
      let on = row_carries state h cut.last more cut.unreported disk is.durable cut.takes in
      let left = left_any_moment state h cut.last (state next).now on is.safe
      cut.finds.content in
      let q = left.state in
      let end = row.end.book.session in
      let grown : IsPrefix h.session.start end.history (acked h) q =
      subst (λ (b : Playing). IsPrefix h.session.start b.session.history (acked h) q)
      (sym row.holds.book) left.prefix in
      let begun : IsPrefix m.book.session.start end.history (acked h) q =
      subst (λ (b : Playing). IsPrefix b.session.start end.history (acked h) q) (sym is.book)
      grown in
      record {
        next = Stored q;
        goes = record {
          unreported = cut.unreported;
          last = row.end;
          takes = row.takes;
          prefix = subst (λ n. IsPrefix m.book.session.start end.history n q) (sym is.acked)
              begun;
        };
        stands = record {
          honest = cut.finds.honest;
          rest = cut.finds.rest;
          stores = left.stores;
        };
      }

  -- ---- any move

  closed_as : (given : D) (new : Standing D) (move : Move) (p : State) → LiesWith state given p
      → Does state (Closed given) move new → MovesAs state (Stored p) move new
  closed_as given (Opened h) Open p is does = record {
    next = Runs (opened_at p);
    goes = refl;
    stands = opened_as given p h is does;
  }
  closed_as given (Closed next) Open p is does = absurd does
  closed_as given (Closed next) OpenInVain p is does = vain_as given next p is does
  closed_as given (Opened h) OpenInVain p is does = absurd does
  closed_as given (Closed next) (Take x r) p is does = absurd does
  closed_as given (Opened h) (Take x r) p is does = absurd does
  closed_as given (Closed next) (Crash more) p is does = absurd does
  closed_as given (Opened h) (Crash more) p is does = absurd does

  open_as : (h : BookView D) (new : Standing D) (move : Move) (m : Running)
      → ((d : D) → IsDisk (state d)) → HoldsAs state h m → Does state (Opened h) move new
      → MovesAs state (Runs m) move new
  open_as h (Opened new) (Take x r) m disk is (answers, on) =
      let one = took_as h new m x r is answers on in
      record { next = Runs (took m x r); goes = (one.reply, refl); stands = one.holds }
  open_as h (Closed next) (Take x r) m disk is does = absurd does
  open_as h (Closed next) (Crash more) m disk is does = stop_as h next m more disk is does
  open_as h (Opened new) (Crash more) m disk is does = absurd does
  open_as h (Closed next) Open m disk is does = absurd does
  open_as h (Opened new) Open m disk is does = absurd does
  open_as h (Closed next) OpenInVain m disk is does = absurd does
  open_as h (Opened new) OpenInVain m disk is does = absurd does

  pub does_as : (old new : Standing D) (move : Move) (m : Machine)
      → ((d : D) → IsDisk (state d)) → StandsAs state old m → Does state old move new
      → MovesAs state m move new
  does_as (Closed given) new move (Stored p) disk is does = closed_as given new move p is does
  does_as (Closed given) new move (Runs m) disk is does = absurd is
  does_as (Opened h) new move (Stored p) disk is does = absurd is
  does_as (Opened h) new move (Runs m) disk is does = open_as h new move m disk is does

  pub all_as : (old new : Standing D) (moves : List Move) (m : Machine)
      → ((d : D) → IsDisk (state d)) → StandsAs state old m → DoesAll state old moves new
      → GoesAs state m moves new
  all_as old new [] m disk is p = record {
    end = m;
    goes = refl;
    stands = subst (λ s. StandsAs state s m) (sym p) is;
  }
  all_as old new (move ∷ moves) m disk is (next, one, rest) =
      let first = does_as old next move m disk is one in
      let more = all_as next new moves first.next disk first.stands rest in
      record { end = more.end; goes = (first.next, first.goes, more.goes); stands = more.stands }
