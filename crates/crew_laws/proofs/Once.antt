-- No turn is made twice: not in one night, and not in several.
use Rattle.run_model.proofs.Common.{◌≡◌, ◌∙◌, ◌⊎◌, ℕ, suc, ◌<◌, ◌≤◌, List, [], ◌∷◌, ◌++◌, true}
use Rattle.run_model.proofs.Common.{Option, Some, None, ap, arith, drop, inl, inr}
use Rattle.run_model.proofs.Common.{none-some, option_map, refl, run, same_Some}
use Rattle.run_model.proofs.Common.{subst, sym, take, take-append-drop, Event, State}
use Rattle.std.proofs.lemmas.List.{take-take}
use Rattle.run_model.specs.declared.answers.TaskInfo.{TaskInfo}
use Rattle.run_model.specs.declared.commands.Step.{Step}
use Rattle.run_model.specs.declared.layouts.Layout.{Layout}
use Rattle.run_model.specs.Event as event
use Rattle.run_model.specs.Session.{acknowledged}
use Rattle.model_laws.proofs.StartedOnce.{Begun, begun_by, still}
use Rattle.state_renewal.specs.Renewed.{keeps_task, new_number, renewed_in, task_renewed}
use Rattle.state_renewal.proofs.RowsRenumbered.{renumbered_get}
use Rattle.book_model.specs.Machines.{CrashesAt, Running, opened_at}
use Rattle.book_model.specs.ManyNights.{InVain, Leads as LeadsBy, Night, Spent, answers_of}
use Rattle.book_model.specs.ManyNights.{steps_of}
use Rattle.book_model.specs.Nights.{opened_from}
use Rattle.book_model.specs.Stores.{restarted}
use Rattle.run_crew.specs.Courses.{Call}
use Rattle.run_crew.specs.Courses as call
use Rattle.crew_laws.specs.Nights.{Chapter, Crewed, Deed, Did, Follow, Happen}
use Rattle.crew_laws.specs.Nights.{Happens, HaveTurn, IsNight, IsNumbered, IsTurn, Leads, Renewal}
use Rattle.crew_laws.specs.Nights.{Session, calls_of}
use Rattle.crew_laws.proofs.Holding.{Held, Turns, beginning_may, turn_on}
use Rattle.crew_laws.proofs.Nightly.{AllMay, Came, Grows, Has, Inv, New, Sound, all_next}
use Rattle.crew_laws.proofs.Nightly.{begun_on, comes, deed_on, grows_not, grows_on, has_begun}
use Rattle.crew_laws.proofs.Nightly.{has_on, inv_next, next_held, own_held, own_may, parts, row_on}
use Rattle.crew_laws.proofs.Nightly.{started_has, until}

-- ---- at a turn

-- What is held at a turn, and after it.
record TurnHeld (m next : Running) (h : ℕ → Option Held) (deed : Deed) (worker task number : ℕ)
    : Type 0 where
  of : Held
  is : h worker ≡ Some of
  of_task : of.info.task ≡ task
  of_number : of.turns ≡ number
  saved : of.saved ≡ true
  same : next ≡ m
  left : next_held h deed worker ≡ Some (record of { turns = suc of.turns })

turn_held : (m next : Running) (h : ℕ → Option Held) (deed : Deed) (deeds : List Deed)
    (worker task number : ℕ) → IsTurn deed worker task number → AllMay h (deed ∷ deeds)
    → Happens m deed next → TurnHeld m next h deed worker task number
turn_held m next h (Did other (call.Make place info turn done answer)) deeds worker task number is
    all happens =
    let made : Call = call.Make place info turn done answer in
    let may : Turns (h other) info turn = own_may h other made deeds all in
    let P : ℕ → Type 0 = λ w. TurnHeld m next h (Did other made) w task number in
    subst P is.0 (record {
      of = may.of;
      is = may.is;
      of_task = ap (λ (i : TaskInfo). i.task) may.same_info ∙ is.1;
      of_number = may.same_number ∙ is.2;
      saved = may.saved;
      same = happens;
      left = own_held h other made ∙ ap turn_on may.is;
    })
turn_held m next h deed deeds worker task number is all happens = absurd is

-- ---- the beginning of a night

begins : (p : State) → Inv (opened_at p) (λ worker. None)
begins p = record {
  sound = record { reached = refl; within = omega arith };
  has = λ worker x is. absurd (none-some x is);
  alone = λ one other x y first second same. absurd (none-some x first);
}

may_begin : (p : State) (deeds : List Deed) (last : Running) → IsNight p deeds last
    → AllMay (λ worker. None) deeds
may_begin p deeds last night =
    λ worker. beginning_may (calls_of worker deeds) (night.shifts worker)

-- ---- one night

-- After a turn of a task, only the worker that made it holds the task, and its next turn has a
-- greater number.
record After (worker task number : ℕ) (m : Running) (h : ℕ → Option Held) : Type 0 where
  inv : Inv m h
  begun : Begun m.book.session.state.work.tasks task
  of : (other : ℕ) (y : Held) → h other ≡ Some y → y.info.task ≡ task
      → (other ≡ worker) × (number < y.turns)

after_next : (worker task number : ℕ) (m next : Running) (h : ℕ → Option Held) (deed : Deed)
    (deeds : List Deed) → After worker task number m h → Happens m deed next
    → AllMay h (deed ∷ deeds) → After worker task number next (next_held h deed)
after_next worker task number m next h deed deeds turned is all = record {
  inv = inv_next m next h deed deeds turned.inv is all;
  begun = begun_on m next task turned.inv.sound after.0 after.1 turned.begun;
  of = λ other y held same.
      by other y same (comes m next h deed deeds other y all is held);
}
  where
    after : Sound next × Grows m next
    after = deed_on m next deed turned.inv.sound is

    by : (other : ℕ) (y : Held) → y.info.task ≡ task → Came next h other y ⊎ New deed other y
        → (other ≡ worker) × (number < y.turns)
    by other y same (inl came) =
        let was = turned.of other came.was came.is
        (ap (λ (i : TaskInfo). i.task) came.info ∙ same) in
        let few = was.1 in
        let more = came.turns in
        (was.0, omega (arith, few, more))
    by other y same (inr new) =
        let fresh = started_has m next deed other y turned.inv.sound is new in
        let is_of : task ≡ new.started.info.task =
        sym same ∙ ap (λ (z : Held). z.info.task) new.is in
        absurd (fresh.new (subst (λ (n : ℕ). Begun m.book.session.state.work.tasks n) is_of
        turned.begun))

after_turn : (m next : Running) (h : ℕ → Option Held) (deed : Deed) (deeds : List Deed)
    (worker task number : ℕ) → Inv m h → IsTurn deed worker task number → Happens m deed next
    → AllMay h (deed ∷ deeds) → After worker task number next (next_held h deed)
after_turn m next h deed deeds worker task number inv turn is all =
    let held = turn_held m next h deed deeds worker task number turn all is in
    let later = inv_next m next h deed deeds inv is all in
    let own : Held = record held.of { turns = suc held.of.turns } in
    let begun : Begun m.book.session.state.work.tasks task =
    subst (λ (n : ℕ). Begun m.book.session.state.work.tasks n) held.of_task
    (has_begun m held.of inv.sound (inv.has worker held.of held.is)) in
    record {
      inv = later;
      begun = subst (λ (n : Running). Begun n.book.session.state.work.tasks task) (sym held.same)
          begun;
      of = λ other y is_held same. by own held.of.turns held.of_number refl held.left later other y
          is_held (held.of_task ∙ sym same);
    }
  where
    by : (own : Held) (turns : ℕ) → turns ≡ number → own.turns ≡ suc turns
        → next_held h deed worker ≡ Some own → Inv next (next_held h deed) → (other : ℕ) (y : Held)
        → next_held h deed other ≡ Some y → own.info.task ≡ y.info.task
        → (other ≡ worker) × (number < y.turns)
    by own turns counted more mine later other y held same =
        let here = later.alone worker other own y mine held same in
        let Q : ℕ → Type 0 = λ v. next_held h deed v ≡ Some y in
        let one : own.turns ≡ y.turns =
        ap (λ (z : Held). z.turns) (same_Some own y (sym mine ∙ subst Q here held)) in
        (here, omega (arith, one, more, counted))

-- The turn that follows has a greater number, and is of the same worker.
next_turn : (m next : Running) (h : ℕ → Option Held) (deed : Deed) (deeds : List Deed)
    (worker other task number later : ℕ) → After worker task number m h
    → IsTurn deed other task later → Happens m deed next → AllMay h (deed ∷ deeds)
    → (other ≡ worker) × (number < later)
next_turn m next h deed deeds worker other task number later turned turn is all =
    let held = turn_held m next h deed deeds other task later turn all is in
    let last = turned.of other held.of held.is held.of_task in
    let few = last.1 in
    let counted = held.of_number in
    (last.0, omega (arith, few, counted))

pub once_a_night : (p : State) (early mid late : List Deed) (one two : Deed) (last : Running)
    (worker other task number later : ℕ)
    → IsNight p (early ++ one ∷ (mid ++ two ∷ late)) last → IsTurn one worker task number
    → IsTurn two other task later → (other ≡ worker) × (number < later)
once_a_night p early mid late one two last worker other task number later night first second =
    let deeds = early ++ one ∷ (mid ++ two ∷ late) in
    let here = until Inv inv_next (opened_at p) last (λ worker. None) early
    (one ∷ (mid ++ two ∷ late)) (begins p) night.happen (may_begin p deeds last night) in
    at_first here.m here.held here.holds here.happen here.may
  where
    at_second : (m : Running) (h : ℕ → Option Held) → After worker task number m h
        → Happen m (two ∷ late) last → AllMay h (two ∷ late) → (other ≡ worker) × (number < later)
    at_second m h turned (next, is, rest) may =
        next_turn m next h two late worker other task number later turned second is may

    at_first : (m : Running) (h : ℕ → Option Held) → Inv m h
        → Happen m (one ∷ (mid ++ two ∷ late)) last → AllMay h (one ∷ (mid ++ two ∷ late))
        → (other ≡ worker) × (number < later)
    at_first m h inv (next, is, rest) may =
        let there = until (After worker task number) (after_next worker task number) next last
        (next_held h one) mid (two ∷ late)
        (after_turn m next h one (mid ++ two ∷ late) worker task number inv first is may)
        rest (all_next h one (mid ++ two ∷ late) may) in
        at_second there.m there.held there.holds there.happen there.may

-- ---- several nights

-- The moment of a turn, of which a later one knows this much.
record Known (m : Running) (task : ℕ) : Type 0 where
  held : Held
  has : Has m held
  of_task : held.info.task ≡ task
  counted : has.many ≤ m.acked

deeds_on : (m last : Running) (deeds : List Deed) → Sound m → Happen m deeds last
    → Sound last × Grows m last
deeds_on m last [] sound is = (subst (λ n. Sound n) (sym is) sound, grows_not m last is)
deeds_on m last (deed ∷ deeds) sound (next, one, rest) =
    let first = deed_on m next deed sound one in
    let more = deeds_on next last deeds first.0 rest in
    (more.0, grows_on m next last first.1 more.1)

-- A moment of a night, and how the machine came to it.
record Since (first m : Running) (h : ℕ → Option Held) : Type 0 where
  inv : Inv m h
  grows : Grows first m

since_next : (first m next : Running) (h : ℕ → Option Held) (deed : Deed) (deeds : List Deed)
    → Since first m h → Happens m deed next → AllMay h (deed ∷ deeds)
    → Since first next (next_held h deed)
since_next first m next h deed deeds since is all = record {
  inv = inv_next m next h deed deeds since.inv is all;
  grows = grows_on first m next since.grows (deed_on m next deed since.inv.sound is).1;
}

-- A turn in a night, and the machine at that moment and at the end.
record Turn_in (p : State) (task : ℕ) (last : Running) : Type 0 where
  m : Running
  sound : Sound m
  known : Known m task
  before : Grows (opened_at p) m
  after : Grows m last

turn_in : (p : State) (deeds : List Deed) (task : ℕ) (last : Running) → IsNight p deeds last
    → HaveTurn deeds task → Turn_in p task last
turn_in p deeds task last night turn =
    let D : List Deed → Type 0 = λ l. Happen (opened_at p) l last in
    let A : List Deed → Type 0 = λ l. AllMay (λ worker. None) l in
    let here = until (Since (opened_at p)) (since_next (opened_at p)) (opened_at p) last
    (λ worker. None) turn.early (turn.deed ∷ turn.late)
    (record { inv = begins p; grows = grows_not (opened_at p) (opened_at p) refl })
    (subst D turn.is_in night.happen)
    (subst A turn.is_in (may_begin p deeds last night)) in
    at here.m here.held here.holds here.happen here.may
  where
    at : (m : Running) (h : ℕ → Option Held) → Since (opened_at p) m h
        → Happen m (turn.deed ∷ turn.late) last → AllMay h (turn.deed ∷ turn.late)
        → Turn_in p task last
    at m h since (next, is, rest) may =
        let held = turn_held m next h turn.deed turn.late turn.worker task turn.number turn.turn may
        is in
        let has = since.inv.has turn.worker held.of held.is in
        let one = deed_on m next turn.deed since.inv.sound is in
        let more = deeds_on next last turn.late one.0 rest in
        record {
          m = m;
          sound = since.inv.sound;
          known = record {
            held = held.of;
            has = has;
            of_task = held.of_task;
            counted = has.saved held.saved;
          };
          before = since.grows;
          after = grows_on m next last one.1 more.1;
        }

-- The state that a crash leaves comes from the last events by a prefix that has the acknowledged
-- ones.
record Left (last : Running) (q : State) : Type 0 where
  end : Running
  grows : Grows last end
  many : ℕ
  enough : last.acked ≤ many
  reached : run last.book.session.start (take many end.book.session.history) ≡ Some q

left_by : (last : Running) (more : List Step) (q : State) → Sound last → CrashesAt last more q
    → Left last q
left_by last more q sound crash =
    let row = row_on last crash.last more crash.unreported sound crash.takes in
    record {
      end = crash.last;
      grows = row.1;
      many = crash.prefix.many;
      enough = crash.prefix.enough;
      reached = crash.prefix.reached;
    }

-- A crash after a turn of a task leaves the task started.
left_begun : (m last : Running) (task : ℕ) (q : State) → Known m task → Grows m last
    → Left last q → Begun q.work.tasks task
left_begun m last task q known after left =
    let all = grows_on m last left.end after left.grows in
    let has = has_on m left.end known.held all known.has in
    let start = left.end.book.session.start in
    let l : List Event = take left.many left.end.book.session.history in
    let enough : has.many ≤ left.many =
    let a = known.counted in let b = after.acked in let c = left.enough in omega (arith, a, b, c) in
    let cut : take has.many l ≡ take has.many left.end.book.session.history =
    take-take has.many left.many left.end.book.session.history enough in
    let one : run start (take has.many l) ≡ Some has.at =
    ap (λ (e : List Event). run start e) cut ∙ has.reached in
    let whole : run start (take has.many l ++ drop has.many l) ≡ Some q =
    ap (λ (e : List Event). run start e) (take-append-drop has.many l)
    ∙ ap (λ (s : State). run s l) left.grows.start ∙ left.reached in
    subst (λ (n : ℕ). Begun q.work.tasks n) known.of_task
    (still (drop has.many l) has.at q known.held.info.task has.begun
    (parts start has.at q (take has.many l) (drop has.many l) one whole))

-- ---- what was started stays so

begun_session : (night : Night) (p q : State) (n : ℕ) → Begun p.work.tasks n → LeadsBy p night q
    → Begun q.work.tasks n
begun_session InVain p q n has (inl same) =
    subst (λ (r : State). Begun r.work.tasks n) (sym same) has
begun_session InVain p q n has (inr again) =
    subst (λ (r : State). Begun r.work.tasks n) (sym again) (begun_by p event.Restart n has)
begun_session (Spent calls more) p q n has leads =
    still
    (event.Restart
    ∷ (acknowledged (opened_from p) (steps_of calls) (answers_of calls) ++ leads.further)) p q n has
    leads.reached

-- The night begins with a restart.
night_grows : (p : State) (deeds : List Deed) (last : Running) → IsNight p deeds last
    → Sound last × Grows (opened_at p) last
night_grows p deeds last night = deeds_on (opened_at p) last deeds (begins p).sound night.happen

begun_night : (p q : State) (deeds : List Deed) (more : List Step) (last : Running) (n : ℕ)
    → Begun p.work.tasks n → IsNight p deeds last → CrashesAt last more q → Begun q.work.tasks n
begun_night p q deeds more last n has night crash =
    let grown = night_grows p deeds last night in
    let left = left_by last more q grown.0 crash in
    let reached : run (restarted p) (take left.many left.end.book.session.history) ≡ Some q =
    sym (ap (λ (s : State). run s (take left.many left.end.book.session.history)) grown.1.start)
    ∙ left.reached in
    still (take left.many left.end.book.session.history) (restarted p) q n
    (begun_by p event.Restart n has) reached

begun_renewed : (p : State) (layout : Layout) (n : ℕ) → keeps_task p n ≡ true
    → Begun p.work.tasks n
    → Begun (renewed_in layout p).work.tasks
    (new_number (keeps_task p) n)
begun_renewed p layout n keeps has = (
  task_renewed p has.0,
  renumbered_get (keeps_task p) (task_renewed p) p.work.tasks n keeps
      ∙ ap (option_map (task_renewed p)) has.1,
  has.2,
)

begun_chapter : (p q : State) (chapter : Chapter) (n m : ℕ) → Begun p.work.tasks n
    → Leads p chapter q → IsNumbered p chapter n m → Begun q.work.tasks m
begun_chapter p q (Session night) n m has leads same =
    subst (λ (k : ℕ). Begun q.work.tasks k) (sym same) (begun_session night p q n has leads)
begun_chapter p q (Crewed deeds more) n m has (last, night, crash) same =
    subst (λ (k : ℕ). Begun q.work.tasks k) (sym same)
    (begun_night p q deeds more last n has night crash)
begun_chapter p q (Renewal layout) n m has leads (keeps, same) =
    subst (λ (s : State). Begun s.work.tasks m) (sym leads)
    (subst (λ (k : ℕ). Begun (renewed_in layout p).work.tasks k) (sym same)
    (begun_renewed p layout n keeps has))

begun_follow : (chapters : List Chapter) (p q : State) (n m : ℕ) → Begun p.work.tasks n
    → Follow p n chapters q m → Begun q.work.tasks m
begun_follow [] p q n m has (state, same) =
    subst (λ (s : State). Begun s.work.tasks m) (sym state)
    (subst (λ (k : ℕ). Begun p.work.tasks k) (sym same) has)
begun_follow (chapter ∷ chapters) p q n m has (next, k, leads, number, rest) =
    begun_follow chapters next q k m (begun_chapter p next chapter n k has leads number) rest

-- ---- never again

-- A night makes no turn of a task that was started before it.
not_again : (p : State) (deeds : List Deed) (task : ℕ) (last : Running) → IsNight p deeds last
    → HaveTurn deeds task → Begun p.work.tasks task → ⊥
not_again p deeds task last night turn has =
    let here = turn_in p deeds task last night turn in
    let own = here.known in
    own.has.fresh (subst (λ (n : ℕ). Begun here.m.book.session.start.work.tasks n) (sym own.of_task)
    (subst (λ (s : State). Begun s.work.tasks task) (sym here.before.start)
    (begun_by p event.Restart task has)))

pub never_in_two : (p q r : State) (deeds again : List Deed) (more : List Step)
    (chapters : List Chapter) (n m : ℕ) (last : Running)
    → Leads p (Crewed deeds more) q → HaveTurn deeds n → Follow q n chapters r m
    → IsNight r again last → HaveTurn again m → ⊥
never_in_two p q r deeds again more chapters n m last (end, night, crash) turn follow later twice =
    let here = turn_in p deeds n end night turn in
    let grown = night_grows p deeds end night in
    let left = left_by end more q grown.0 crash in
    not_again r again m last later twice
    (begun_follow chapters q r n m (left_begun here.m end n q here.known here.after left) follow)
