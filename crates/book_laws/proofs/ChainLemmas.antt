-- Several calls, one after another, by the effect of each of them.
use Rattle.std.proofs.Common.{◌≡◌, ◌⊎◌, ◌≤◌, inl, inr, ◌∷◌, ◌||◌, ℕ, Bool, true, false, List, []}
use Rattle.std.proofs.Common.{length, None, Ok, Err, Some, append-nil, refl, sym, ap, ◌∙◌, subst}
use Rattle.std.proofs.Common.{arith, IfErr, Result}
use Rattle.std.specs.List.{list_any}
use Rattle.run_model.specs.declared.answers.Reply.{Reply}
use Rattle.run_model.specs.declared.commands.Step.{Step}
use Rattle.run_model.specs.declared.faults.Fault.{Fault}
use Rattle.run_model.specs.declared.faults.Fault.TheVariants.{DiskFailed, WrongSize}
use Rattle.run_model.specs.declared.faults.Trouble.{Trouble}
use Rattle.run_model.specs.declared.faults.Trouble.TheVariants.{Faulty}
use Rattle.run_model.specs.declared.layouts.Layout.{Layout}
use Rattle.run_model.specs.declared.layouts.Layout.TheVariants.{Large, Small}
use Rattle.run_model.specs.Allowed.{run}
use Rattle.run_model.specs.Event.{Event}
use Rattle.run_model.specs.Layouts.{layout_of, store_len}
use Rattle.run_model.specs.Session.{Session, accepted, event_of_step, with_event, begun_at}
use Rattle.run_model.specs.State.{State, formatted}
use Rattle.run_disk.specs.Disk.{DiskState, IsAtRest, IsDisk}
use Rattle.run_disk.specs.Runs.{LeavesOnly}
use Rattle.run_disk.proofs.RunLemmas.{leaves_only_more, only_weaker}
use Rattle.run_journal.specs.Pairs.{AreZeros}
use Rattle.run_journal.proofs.LayoutLemmas.{one_layout}
use Rattle.model_laws.proofs.Interrupts.{restarted as interrupted}
use Rattle.book_model.specs.Books.{CarriesOn, BookView, IsOpened, IsUnsaved, acked}
use Rattle.book_model.specs.Nights.{opened_from}
use Rattle.book_model.specs.Openings.{Formats, FormatsNot, HasFormatted, Opens, CrashesInFormat}
use Rattle.book_model.specs.Plays.{Playing, Plays, is_device_failure, next_session, sound, taken}
use Rattle.book_model.specs.Steps.{PlaysInto, playing}
use Rattle.book_model.specs.Stores.{Stores, StoresPrefix, StoresNothingOr, StoresOpened, restarted}
use Rattle.book_model.proofs.PrefixLemmas.{prefix_here, prefix_kept}
use Rattle.book_model.proofs.BookLemmas.{carries_after, stores_fewer}
use Rattle.book_model.proofs.NightLemmas.{is_night, opened_safe}
use Rattle.book_model.proofs.OpeningLemmas.{formats_cause, opens_again, opens_cause}
use Rattle.book_model.proofs.Playing.{accepted_run, not_refused, stuck_refuses, taken_keep}
use Rattle.book_model.proofs.Rows.{row_steps}
use Rattle.book_model.proofs.Stepping.{steps_left, steps_play}
use Rattle.book_model.proofs.Storing.{stores_one}
use Rattle.book_laws.specs.Chains.{DeviceFails, HasLasted, HasStayed, HasStayedNew, HoldsOne}
use Rattle.book_laws.specs.Chains.{HoldsOneOrNothing, IsPlayed, StopsFor}

-- ---- steps

-- A book that isn't broken after the steps took each of them.
taken_all : (k : Bool) (s : Session) (end : Playing) (steps : List Step) (answers : List Reply)
    → Plays (record { session = s; broken = k }) steps answers end → end.broken ≡ false
    → taken steps answers ≡ steps
taken_all k s end [] [] p fine = refl
taken_all k s end [] (r ∷ answers) p fine = absurd p
taken_all k s end (x ∷ steps) [] p fine = absurd p
taken_all true s end (x ∷ steps) (r ∷ answers) p fine =
    let broken = ap (λ (b : Playing). b.broken)
    (stuck_refuses s end (x ∷ steps) (r ∷ answers) p).1 in
    absurd (cc (broken, fine))
taken_all false s end (x ∷ steps) (r ∷ answers) p fine =
    taken_keep x r steps answers (not_refused s x r p.0)
    ∙ ap (λ l. x ∷ l)
    (taken_all (is_device_failure r) (with_event s (event_of_step s x)) end steps answers p.1 fine)

or_assoc : (a b c : Bool) → (a || b) || c ≡ a || (b || c)
or_assoc true b c = refl
or_assoc false b c = refl

or_none : (a : Bool) → a ≡ true → a || false ≡ true
or_none true is = refl
or_none false is = is

-- A book that is broken after the steps was so before, or met a failure of the device.
broken_by : (k : Bool) (s : Session) (end : Playing) (steps : List Step) (answers : List Reply)
    → Plays (record { session = s; broken = k }) steps answers end → end.broken ≡ true
    → k || list_any is_device_failure answers ≡ true
broken_by k s end [] [] p broken = or_none k (sym (ap (λ (b : Playing). b.broken) p) ∙ broken)
broken_by k s end [] (r ∷ answers) p broken = absurd p
broken_by k s end (x ∷ steps) [] p broken = absurd p
broken_by k s end (x ∷ steps) (r ∷ answers) p broken =
    sym (or_assoc k (is_device_failure r) (list_any is_device_failure answers))
    ∙ broken_by (k || is_device_failure r) (next_session k s x) end steps answers p.1 broken

-- ---- why the calls end early

fails_later : (old mid new : DiskState) → old.failures ≤ mid.failures → DeviceFails mid new
    → DeviceFails old new
fails_later old mid new later (inl rose) = inl (omega (arith, later, rose))
fails_later old mid new later (inr spent) = inr spent

-- A reason that ends the later calls early ends all of them early.
pub stops_later : (old mid new : DiskState) (why : Trouble) → old.failures ≤ mid.failures
    → StopsFor mid new why → StopsFor old new why
stops_later old mid new why later (inl memory) = inl memory
stops_later old mid new why later (inr (inl spent)) = inr (inl spent)
stops_later old mid new why later (inr (inr (reported, fails))) =
    inr (inr (reported, fails_later old mid new later fails))

pub stopped_later : {D X : Type 0} (state : D → DiskState) (old mid : DiskState)
    (result : Result X (Trouble × D)) → old.failures ≤ mid.failures
    → IfErr result (λ e. StopsFor mid (state e.1) e.0)
    → IfErr result (λ e. StopsFor old (state e.1) e.0)
stopped_later state old mid (Ok x) later is = is
stopped_later state old mid (Err e) later is = stops_later old mid (state e.1) e.0 later is

-- Why no book was opened, although the disk stores a state.
pub unopened_why : {D : Type 0} (state : D → DiskState) (given : D) (e : Fault × D) (p : State)
    → IsDisk (state given) → (state given).honest → Opens state given (Err e)
    → Stores (state given).now p → StopsFor (state given) (state e.1) (Faulty e.0)
unopened_why state given e p disk honest is stores =
    elim (opens_again state given (Err e) p disk honest is stores) [
      | inl memory ↦ inl (ap Faulty memory)
      | inr (inl failed) ↦
          inr (inr (inl (ap Faulty failed), opens_cause state given (Err e) is failed))
      | inr (inr spent) ↦ inr (inl (ap Faulty spent))
    ]

-- ---- what a stop leaves

-- What an opening leaves: the state before, or the prefix of no event.
opened_holds : (p : State) (events : List Event) (x : List ℕ) → StoresOpened p x
    → HoldsOne p events x
opened_holds p events x (inl before) = inl before
opened_holds p events x (inr after) =
    inr (inl (prefix_kept (restarted p) events [] events x refl (record {
      state = restarted p;
      prefix = record {
        many = 0;
        enough = omega arith;
        within = omega arith;
        reached = refl;
      };
      stores = after;
    })))

-- A prefix of the events.
prefix_holds : (p : State) (events : List Event) (n : ℕ) (x : List ℕ)
    → StoresPrefix (restarted p) events n x → HoldsOne p events x
prefix_holds p events n x prefix =
    inr (inl (prefix_kept (restarted p) events [] events x refl
    (stores_fewer (restarted p) events n 0 x (omega arith) prefix)))

-- What a second opening leaves: the prefix of all events, or what its restart left.
reopened_holds : (p last : State) (events : List Event) (x : List ℕ)
    → run (restarted p) events ≡ Some last → StoresOpened last x → HoldsOne p events x
reopened_holds p last events x reached (inl before) =
    prefix_holds p events (length events) x (prefix_here (restarted p) last events x reached before)
reopened_holds p last events x reached (inr after) =
    inr (inr (record { last = last; reached = reached; stores = after }))

-- No step was taken, because no book was opened.
pub unopened : (p : State) (steps : List Step) (replies : List Reply) (old new : DiskState)
    → LeavesOnly (StoresOpened p) old new → HasStayed p steps replies replies old new
unopened p steps replies old new leaves = record {
  answers = [];
  appended = sym (append-nil replies);
  held = only_weaker (StoresOpened p) (HoldsOne p (accepted (opened_from p) (taken steps []))) old
      new (λ x is. opened_holds p (accepted (opened_from p) (taken steps [])) x is) leaves;
}

-- Steps were played over the book that an opening returned.
pub is_played : {D : Type 0} (state : D → DiskState) (given : D) (p : State) (steps : List Step)
    (before replies : List Reply) (first b : BookView D) → (state given).honest
    → IsAtRest (state given) → Stores (state given).now p
    → Opens state given (Ok first)
    → PlaysInto state first steps before b replies
    → CarriesOn state first b
    → IsPlayed state given p steps before b replies
is_played state given p steps before replies first b honest rest stores opens plays on =
    let opened = opens.answer in
    let same = stores_one (state given).now opened.stored p (opened.found.stores honest) stores in
    record {
      first = first;
      opened = subst (λ q. IsOpened state given q first) same opened.opened;
      leaves = opens.any_moment honest rest p stores;
      plays = plays;
      on = on;
    }

module _ {D : Type 0} (state : D → DiskState) (given : D) (p : State) (steps : List Step)
    (before replies : List Reply) (b : BookView D)
    (is : IsPlayed state given p steps before b replies) where
  -- The events that the steps led to.
  abbrev events : List Event
  events = accepted (opened_from p) (taken steps is.plays.answers)

  -- What the book left since the opening began, once it went on from the steps without an event.
  pub left_since : (new : BookView D) → (state given).honest → IsAtRest (state given)
      → CarriesOn state b new → new.session ≡ b.session
      → LeavesOnly (HoldsOne p events) (state given) (state new.journal.disk)
  left_since new honest rest on same =
      let night = is_night state given p is.first b steps is.plays.answers is.opened
      (row_steps state is.first b steps is.plays.answers is.plays.played) in
      let whole = carries_after state is.first b new is.on on in
      let safe = opened_safe state given p is.first honest rest is.opened in
      let start = on.start ∙ night.start in
      let history = ap (λ s. s.history) same ∙ night.history in
      leaves_only_more (StoresOpened p)
      (StoresPrefix new.session.start new.session.history (acked is.first)) (HoldsOne p events)
      (state given) (state is.first.journal.disk) (state new.journal.disk)
      is.leaves (whole.any_moment safe) (λ x left. opened_holds p events x left)
      (λ x left. prefix_holds p events (acked is.first) x
      (subst (λ l. StoresPrefix (restarted p) l (acked is.first) x) history
      (subst (λ q. StoresPrefix q new.session.history (acked is.first) x) start left)))

  pub stayed : (new : BookView D) → (state given).honest → IsAtRest (state given)
      → CarriesOn state b new → new.session ≡ b.session
      → HasStayed p steps before replies (state given) (state new.journal.disk)
  stayed new honest rest on same = record {
    answers = is.plays.answers;
    appended = is.plays.appended;
    held = left_since new honest rest on same;
  }

  -- ---- all events

  begins : playing is.first ≡ sound (opened_from p)
  begins =
      ap (λ s. record { session = s; broken = is.first.journal.broken }) is.opened.session
      ∙ ap (λ k. record { session = opened_from p; broken = k }) is.opened.sound

  plays : Plays (sound (opened_from p)) steps is.plays.answers (playing b)
  plays =
      subst (λ q. Plays q steps is.plays.answers (playing b)) begins
      (steps_play state is.first b steps is.plays.answers
      (subst (λ (s : Session). run s.start s.history ≡ Some s.state) (sym is.opened.session) refl)
      (row_steps state is.first b steps is.plays.answers is.plays.played)).plays

  -- The state that all accepted events led to is the book's.
  reached : run (restarted p) events ≡ Some b.session.state
  reached = accepted_run (sound (opened_from p)) (playing b) steps is.plays.answers plays

  -- It was opened again over a disk that stores that state.
  pub stayed_again : (new : BookView D) (over behind : D) → (state given).honest
      → IsAtRest (state given) → CarriesOn state b new
      → new.session ≡ b.session → over ≡ new.journal.disk
      → LeavesOnly (StoresOpened b.session.state) (state over) (state behind)
      → HasStayed p steps before replies (state given) (state behind)
  stayed_again new over behind honest rest on same is_over leaves = record {
    answers = is.plays.answers;
    appended = is.plays.appended;
    held =
        leaves_only_more (HoldsOne p events) (StoresOpened b.session.state) (HoldsOne p events)
        (state given) (state over) (state behind)
        (subst (λ d. LeavesOnly (HoldsOne p events) (state given) (state d)) (sym is_over)
        (left_since new honest rest on same)) leaves (λ x left. left)
        (λ x left. reopened_holds p b.session.state events x reached left);
  }

  -- A call failed since the opening, where the book is broken.
  broken_why : b.journal.broken ≡ true → DeviceFails (state given) (state b.journal.disk)
  broken_why broken =
      let left = steps_left state is.first b steps is.plays.answers
      (row_steps state is.first b steps is.plays.answers is.plays.played) in
      fails_later (state given) (state is.first.journal.disk) (state b.journal.disk)
      is.opened.passed.failures_later
      (left.failed
      (broken_by false (opened_from p) (playing b) steps
      is.plays.answers plays broken)).0

  pub later_since : (new : BookView D) → CarriesOn state b new
      → (state given).failures ≤ (state new.journal.disk).failures
  later_since new on =
      omega (
        arith,
        is.opened.passed.failures_later,
        is.on.passed.failures_later,
        on.passed.failures_later,
      )

  -- What the steps led to isn't saved.
  pub unsaved_why : (why : Trouble) (new : BookView D) → IsUnsaved state b why new
      → StopsFor (state given) (state new.journal.disk) why
  unsaved_why why new (inl refused) =
      inr (inr (
        inr refused.reported,
        subst (λ (h : BookView D). DeviceFails (state given) (state h.journal.disk))
            (sym refused.same) (broken_why refused.was),
      ))
  unsaved_why why new (inr (inl spent)) = inr (inl spent.reported)
  unsaved_why why new (inr (inr failed)) =
      inr (inr (
        inl failed.reported,
        fails_later (state given) (state b.journal.disk) (state new.journal.disk)
            (omega (arith, is.opened.passed.failures_later, is.on.passed.failures_later))
            failed.cause,
      ))

  pub over_honest : (new : BookView D) (over : D) → (state given).honest
      → CarriesOn state b new → over ≡ new.journal.disk → (state over).honest
  over_honest new over honest on is_over =
      subst (λ d. (state d).honest) (sym is_over)
      (on.passed.honest (is.on.passed.honest (is.opened.passed.honest honest)))

  -- Once all is saved, its disk stores that state.
  pub saved_state : (new : BookView D) (over : D) → IsDisk (state over) → (state given).honest
      → CarriesOn state b new → over ≡ new.journal.disk
      → new.session ≡ b.session
      → ((x : List ℕ) → (state new.journal.disk).images x → Stores x new.session.state)
      → Stores (state over).now b.session.state
  saved_state new over disk honest on is_over same stores =
      let then : (state over).honest = over_honest new over honest on is_over in
      subst (λ s. Stores (state over).now s.state) same
      (stores (state over).now
      (subst (λ d. (state d).images (state over).now) is_over (disk.now_is_image then)))

  pub lasted : (over : D) (second : BookView D) → b.journal.broken ≡ false
      → (state over).honest → Stores (state over).now b.session.state
      → Opens state over (Ok second) → second.session ≡ begun_at second.session.start
      → HasLasted p steps before replies second.session
  lasted over second fine honest stores opens begun =
      let last = b.session.state in
      let opened = opens.answer in
      let same = stores_one (state over).now opened.stored last (opened.found.stores honest)
      stores in
      let end = playing b in
      let all = taken_all false (opened_from p) end steps is.plays.answers plays fine in
      record {
        answers = is.plays.answers;
        appended = is.plays.appended;
        end = end;
        answered = plays;
        sound = fine;
        last = last;
        reached = ap (λ l. run (restarted p) (accepted (opened_from p) l)) (sym all)
            ∙ reached;
        restart = interrupted last;
        reopened = opened.opened.session ∙ ap (λ q. begun_at (restarted q)) same;
      }

-- ---- a format

no_size : (layout : Layout) (size : ℕ) → size ≡ store_len layout → layout_of size ≡ None → ⊥
no_size Small size is none = cc (ap layout_of is, none)
no_size Large size is none = cc (ap layout_of is, none)

module _ {D : Type 0} (state : D → DiskState) (given : D) (layout : Layout)
    (whole : (state given).size ≡ store_len layout) where
  -- What a format leaves, in the layout of the disk's size.
  pub new_store : (new : D) → IsDisk (state new) → (state given).honest
      → HasFormatted (state given) (state new) → Stores (state new).now (formatted layout)
  new_store new disk honest is =
      subst (λ l. Stores (state new).now (formatted l))
      (one_layout is.layout layout (sym is.sized ∙ whole))
      (is.stores honest (state new).now (disk.now_is_image (is.passed.honest honest)))

  crashes : (new : D) (other : Layout) → (state given).honest → IsAtRest (state given)
      → AreZeros (state given).now → (state given).size ≡ store_len other
      → CrashesInFormat other (state given) (state new)
      → LeavesOnly (StoresNothingOr (formatted layout)) (state given) (state new)
  crashes new other honest rest zeros sized run =
      subst (λ l. LeavesOnly (StoresNothingOr (formatted l)) (state given) (state new))
      (one_layout other layout (sym sized ∙ whole))
      (run honest (λ x left. subst AreZeros (sym (rest.only x left)) zeros))

  pub new_stayed : (new behind : D) (steps : List Step) (before replies : List Reply)
      → (state given).honest → IsAtRest (state given) → AreZeros (state given).now
      → HasFormatted (state given) (state new)
      → HasStayed (formatted layout) steps before replies (state new) (state behind)
      → HasStayedNew (formatted layout) steps before replies (state given) (state behind)
  new_stayed new behind steps before replies honest rest zeros is stayed =
      let p = formatted layout in
      let events = accepted (opened_from p) (taken steps stayed.answers) in
      record {
        answers = stayed.answers;
        appended = stayed.appended;
        held =
            leaves_only_more (StoresNothingOr p) (HoldsOne p events) (HoldsOneOrNothing p events)
            (state given) (state new) (state behind)
            (crashes new is.layout honest rest zeros is.sized is.crashes) stayed.held
            (λ x left. inl left) (λ x left. inr left);
      }

  pub not_formatted : (new : D) (why : Fault) (steps : List Step) (replies : List Reply)
      → (state given).honest → IsAtRest (state given) → AreZeros (state given).now
      → FormatsNot state given why new → (why ≡ WrongSize) ⊎ (why ≡ DiskFailed)
      → HasStayedNew (formatted layout) steps replies replies (state given) (state new)
  not_formatted new why steps replies honest rest zeros not reported =
      let p = formatted layout in
      let events = accepted (opened_from p) (taken steps []) in
      let left : LeavesOnly (StoresNothingOr p) (state given) (state new) =
      elim reported [
        | inl wrong ↦
            let failed = subst (λ w. FormatsNot state given w new) wrong not in
            absurd (no_size layout (state given).size whole failed.0)
        | inr failed ↦
            let is = subst (λ w. FormatsNot state given w new) failed not in
            crashes new is.sized.0 honest rest zeros is.sized.1 is.crashes
      ] in
      record {
        answers = [];
        appended = sym (append-nil replies);
        held = only_weaker (StoresNothingOr p) (HoldsOneOrNothing p events) (state given)
            (state new) (λ x is. inl is) left;
      }

  pub format_why : (e : Fault × D) → Formats state given (Err e)
      → (e.0 ≡ WrongSize) ⊎ (e.0 ≡ DiskFailed) → StopsFor (state given) (state e.1) (Faulty e.0)
  format_why e is (inl wrong) =
      let not = subst (λ w. FormatsNot state given w e.1) wrong is in
      absurd (no_size layout (state given).size whole not.0)
  format_why e is (inr failed) =
      inr (inr (inl (ap Faulty failed), formats_cause state given (Err e) is failed))
