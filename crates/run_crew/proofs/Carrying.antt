-- How a book carries on from what it held when a desk was made over it.
use Rattle.run_model.proofs.Common.{◌≡◌, ◌≤◌, ◌-◌, ◌++◌, ◌∷◌, ℕ, List, [], Bool, true, false}
use Rattle.run_model.proofs.Common.{Option, None, Some, refl, sym, subst, ap, ◌∙◌, arith}
use Rattle.run_model.proofs.Common.{append_assoc, append-nil, Result, Ok, Err, if◌then◌else◌, ◌&&◌}
use Rattle.run_model.proofs.Common.{list_all, Event, refusals, unless, decide_start, if_room}
use Rattle.run_model.proofs.Common.{is_full, Session, after_step, event_of_step, with_event, State}
use Rattle.run_model.proofs.Common.{result_unwrap_or}
use Rattle.std.specs.Prelude.{option_to_list}
use Rattle.std.proofs.lemmas.List.Folds.{list_all-append}
use Rattle.run_model.specs.declared.commands.Step.{Step}
use Rattle.run_model.specs.declared.commands.Step.TheVariants as step
use Rattle.run_model.specs.declared.refusals.Refusal.{Refusal}
use Rattle.run_model.specs.declared.refusals.Refusal.TheVariants.{SessionFull}
use Rattle.run_model.specs.declared.tasks.Outcome.{Outcome}
use Rattle.run_model.specs.Event as event
use Rattle.run_disk.specs.Disk.{DiskState, IsAtRest}
use Rattle.run_disk.proofs.RunLemmas.{leaves_only_more}
use Rattle.model_laws.proofs.StartingReplies.{start_of}
use Rattle.book_model.specs.Books.{CarriesOn, BookView, acked}
use Rattle.book_model.specs.Stores.{StoresPrefix}
use Rattle.book_model.proofs.BookLemmas.{passed_more, stores_fewer, stores_more}
use Rattle.run_book.specs.Views.{with_session}
use Rattle.run_crew.specs.Desks.{finishes_of, starts_of}
use Rattle.run_crew.specs.Openings.{Carries, CarriesFrom, From, Known, Opened, Unsaid, is_work}
use Rattle.run_crew.specs.Openings.{obeys}

-- ---- what is decided of a start and of a finish

-- All that a decision leads to are starts and finishes.
abbrev pub works : Result (Option Event) Refusal → Bool
works decision = list_all is_work (option_to_list (result_unwrap_or decision None))

room_works : (p : State) (log : ℕ) (e : Event) → is_work e ≡ true → works (if_room p log e) ≡ true
room_works p log e is =
    elim (is_full p log e) as (λ b. works (if b then Err SessionFull else Ok (Some e)) ≡ true)
    [ true ↦ refl | false ↦ ap (λ b. b && true) is ]

unless_works : (tests : List (Bool × Refusal)) (answer : Result (Option Event) Refusal)
    → works answer ≡ true → works (unless tests answer) ≡ true
unless_works [] answer is = is
unless_works (t ∷ tests) answer is =
    elim t.0 as (λ b. works (if b then Err t.1 else unless tests answer) ≡ true)
    [ true ↦ refl | false ↦ unless_works tests answer is ]

decide_start_works : (p : State) (log : ℕ) → works (decide_start p log) ≡ true
decide_start_works p log =
    unless_works (refusals p (start_of p)) (if_room p log (start_of p))
    (room_works p log (start_of p) refl)

-- The events that a step adds: none where the book is broken.
abbrev pub added_by : {D : Type 0} → BookView D → Step → List Event
added_by b x = if b.journal.broken then [] else option_to_list (event_of_step b.session x)

pub history_grown : {D : Type 0} (b new : BookView D) (x : Step)
    → new ≡ with_session b (after_step b.session x)
    → new.session.history ≡ b.session.history ++ added_by b x
history_grown b new x after = ap (λ (v : BookView _). v.session.history) after ∙ by b.journal.broken
  where
    grown : (o : Option Event)
        → (with_event b.session o).history ≡ b.session.history ++ option_to_list o
    grown None = sym (append-nil b.session.history)
    grown (Some e) = refl

    by : (k : Bool)
        → (if k then b else record b { session = after_step b.session x }).session.history
        ≡ b.session.history ++ (if k then [] else option_to_list (event_of_step b.session x))
    by true = sym (append-nil b.session.history)
    by false = grown (event_of_step b.session x)

added_works : {D : Type 0} (b : BookView D) (x : Step)
    → list_all is_work (option_to_list (event_of_step b.session x)) ≡ true
    → list_all is_work (added_by b x) ≡ true
added_works b x is =
    elim b.journal.broken as (λ k.
    list_all is_work (if k then [] else option_to_list (event_of_step b.session x)) ≡ true)
    [ true ↦ refl | false ↦ is ]

pub start_works : {D : Type 0} (b : BookView D) → list_all is_work (added_by b step.Start) ≡ true
start_works b = added_works b step.Start (decide_start_works b.session.state b.session.log)

pub finish_works : {D : Type 0} (b : BookView D) (n : ℕ) (outcome : Outcome)
    → list_all is_work (added_by b (step.Finish n outcome)) ≡ true
finish_works b n outcome =
    added_works b (step.Finish n outcome)
    (unless_works (refusals b.session.state (event.Finish n outcome)) _ refl)

-- ---- going on

module _ {D : Type 0} (state : D → DiskState) where
  -- It took a step.
  from_more : (from : Opened) (h new : BookView D) (events : List Event)
      → CarriesFrom from state h → CarriesOn state h new
      → new.session.history ≡ h.session.history ++ events
      → (from.commands ≡ false → list_all is_work events ≡ true) → CarriesFrom from state new
  from_more from h new events is on grown work =
      let least = from.durable - from.session.start.count in
      let fewer : least ≤ acked h =
      omega (arith, is.durable, ap (λ (p : State). p.count) is.start) in
      record {
        start = on.start ∙ is.start;
        added = is.added ++ events;
        more = grown ∙ ap (λ l. l ++ events) is.more
            ∙ append_assoc from.session.history is.added events;
        only = λ none. list_all-append is_work is.added events
            ∙ ap (λ b. b && list_all is_work events) (is.only none) ∙ work none;
        durable = omega (arith, is.durable, on.durable);
        passed = passed_more from.disk (state h.journal.disk) (state new.journal.disk) is.passed
            on.passed;
        rest = λ rest. subst (λ d. IsAtRest (state d)) (sym on.origin) (is.rest rest);
        any_moment = λ honest rest.
            leaves_only_more
            (StoresPrefix from.session.start h.session.history least)
            (StoresPrefix new.session.start new.session.history (acked h))
            (StoresPrefix from.session.start new.session.history least)
            from.disk (state h.journal.disk) (state new.journal.disk)
            (is.any_moment honest rest)
            (on.any_moment (record { honest = is.passed.honest honest; rest = is.rest rest }))
            (λ x s.
            subst (λ l. StoresPrefix from.session.start l least x) (sym grown)
            (stores_more from.session.start h.session.history events least x s))
            (λ x s.
            stores_fewer from.session.start new.session.history (acked h) least x fewer
            (subst (λ p. StoresPrefix p new.session.history (acked h) x) (on.start ∙ is.start) s));
      }

  -- Starts and finishes came, or others where they may.
  pub carries_more : (known : Known) (h new : BookView D) (events : List Event)
      → Carries known state h → CarriesOn state h new
      → new.session.history ≡ h.session.history ++ events
      → (obeys known ≡ false → list_all is_work events ≡ true) → Carries known state new
  carries_more Unsaid h new events is on grown work = tt
  carries_more (From from) h new events is on grown work =
      from_more from h new events is on grown work

  -- No event came: so the totals of a desk stay, too.
  pub desk_stays : (known : Known) (h new : BookView D) (starts finishes : ℕ)
      → (starts ≡ starts_of h.session.history) × (finishes ≡ finishes_of h.session.history)
      × Carries known state h
      → CarriesOn state h new → new.session ≡ h.session
      → (starts ≡ starts_of new.session.history) × (finishes ≡ finishes_of new.session.history)
      × Carries known state new
  desk_stays known h new starts finishes is on same =
      let history = ap (λ (s : Session). s.history) same in (
        is.0 ∙ ap starts_of (sym history),
        is.1 ∙ ap finishes_of (sym history),
        carries_more known h new [] is.2 on (history ∙ sym (append-nil h.session.history))
            (λ _. refl),
      )

-- If commands may come, it doesn't matter which events came.
pub none_barred : (known : Known) (events : List Event) → obeys known ≡ true
    → obeys known ≡ false → list_all is_work events ≡ true
none_barred known events may not = absurd (let e : true ≡ false = sym may ∙ not in cc)
