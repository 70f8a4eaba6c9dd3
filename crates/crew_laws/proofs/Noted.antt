-- The finishes in a history have one note for each task at most.
use Rattle.run_model.proofs.Common.{◌≡◌, ◌∙◌, ◌<◌, ◌≤◌, ◌+◌, ◌==◌, ◌⊎◌, ℕ, Bool, true}
use Rattle.run_model.proofs.Common.{false, List, [], ◌∷◌, ◌++◌, Some, ap, arith, cases_eq, cond}
use Rattle.run_model.proofs.Common.{eqb_tells, if◌then◌else◌, inl, inr, nat_lt}
use Rattle.run_model.proofs.Common.{option_and_then_some, refl, subst, sum_by-append}
use Rattle.run_model.proofs.Common.{sum_by-cons, sym, Event, State, after, allowed, run, step}
use Rattle.run_model.specs.declared.tasks.Outcome.{Outcome}
use Rattle.run_model.specs.Event as event
use Rattle.model_laws.proofs.RunLemmas.{after_allowed, after_step}
use Rattle.run_crew.specs.declared.notes.Note.{Note}
use Rattle.crew_laws.specs.Audits.{HasEnded, notes_of}
use Rattle.run_crew.specs.Notes.{finishes_since, note_of, note_since}
use Rattle.crew_laws.proofs.Ended.{ended_by, ended_then, never_finished, stays_ended}

-- ---- the notes of one event

-- An event is a finish of this task, or has no note of it.
abbrev IsNoted : State → ℕ → Event → ℕ → Type 0
IsNoted p task made n =
    (n ≡ 0) ⊎ ((how : Outcome) × (made ≡ event.Finish task how) × (n ≤ 1))

one_note : (task : ℕ) (x : Note) → notes_of task (x ∷ []) ≡ cond (x.task == task) 1 0
one_note task x =
    sum_by-cons (λ (y : Note). cond (y.task == task) 1 0) x []
    ∙ omega arith

none_of : (p : State) (task : ℕ) (event : Event) (b : Bool)
    → IsNoted p task event (notes_of task (if b then [] else []))
none_of p task event true = inl refl
none_of p task event false = inl refl

finish_noted : (p : State) (task since number n : ℕ) (how : Outcome) (b : Bool)
    → IsNoted p task (event.Finish n how)
    (notes_of task (if b then note_of number (event.Finish n how) else []))
finish_noted p task since number n how false = inl refl
finish_noted p task since number n how true =
    elim (cases_eq n task) [
      | inl same ↦ inr (
        how,
        ap (λ k. event.Finish k how) same,
        let is = one_note task (record { event = number; task = n; outcome = how }) in
            let most = at_most (n == task) in
            omega (arith, is, most),
      )
      | inr other ↦ inl (
          one_note task (record { event = number; task = n; outcome = how })
          ∙ ap (λ c. cond c 1 0) (differs n task other)
          )
    ]
  where
    at_most : (c : Bool) → cond c 1 0 ≤ 1
    at_most true = omega arith
    at_most false = omega arith

    differs : (a b : ℕ) → (a ≡ b → ⊥) → (a == b) ≡ false
    differs a b other = grind (arith, eqb_tells)

event_noted : (p : State) (task since number : ℕ) (event : Event)
    → IsNoted p task event (notes_of task (note_since since number event))
event_noted p task since number (event.Derive name parent kind) =
    none_of p task _ (nat_lt since number)
event_noted p task since number (event.Cancel s cause) = none_of p task _ (nat_lt since number)
event_noted p task since number (event.Advance moment) = none_of p task _ (nat_lt since number)
event_noted p task since number (event.Group name parent) =
    none_of p task _ (nat_lt since number)
event_noted p task since number (event.Bare name s) = none_of p task _ (nat_lt since number)
event_noted p task since number (event.SetLimit g limit) =
    none_of p task _ (nat_lt since number)
event_noted p task since number (event.Go g job argument) =
    none_of p task _ (nat_lt since number)
event_noted p task since number (event.TryGo g job argument) =
    none_of p task _ (nat_lt since number)
event_noted p task since number (event.Retry k) = none_of p task _ (nat_lt since number)
event_noted p task since number (event.Start k) = none_of p task _ (nat_lt since number)
event_noted p task since number (event.Finish n how) =
    finish_noted p task since number n how (nat_lt since number)
event_noted p task since number (event.Wait g) = none_of p task _ (nat_lt since number)
event_noted p task since number event.Restart = none_of p task _ (nat_lt since number)

-- ---- the notes of a run

-- A task has one note at most, and has ended if it has one. It has none if it had ended before.
pub record NotedOnce (p q : State) (task n : ℕ) : Type 0 where
  pub once : n ≤ 1
  pub ended : 0 < n → HasEnded q task
  pub never : HasEnded p task → n ≡ 0

pub noted_once : (p q : State) (task since count : ℕ) (events : List Event)
    → run p events ≡ Some q → NotedOnce p q task (notes_of task (finishes_since since count events))
noted_once p q task since count [] led = record {
  once = omega arith;
  ended = λ some. absurd (omega (arith, some));
  never = λ has. refl;
}
noted_once p q task since count (event ∷ events) led =
    option_and_then_some (λ next. run next events) (after p event) q led
    (λ next first rest.
    joins next rest (after_allowed p next event first) (after_step p next event first)
    (noted_once next q task since (count + 1) events rest)
    (event_noted p task since (count + 1) event))
  where
    head : ℕ
    head = notes_of task (note_since since (count + 1) event)

    more : ℕ
    more = notes_of task (finishes_since since (count + 1) events)

    sum : notes_of task (note_since since (count + 1) event
        ++ finishes_since since (count + 1) events) ≡ head + more
    sum = sum_by-append (λ (y : Note). cond (y.task == task) 1 0)
        (note_since since (count + 1) event) (finishes_since since (count + 1) events)

    joins : (next : State) → run next events ≡ Some q → allowed p event ≡ true → step p event ≡ next
        → NotedOnce next q task more → IsNoted p task event head
        → NotedOnce p q task (notes_of task (finishes_since since count (event ∷ events)))
    joins next rest may is later (inl none) = record {
      once = let o = later.once in omega (arith, sum, none, o);
      ended = λ some. later.ended (omega (arith, sum, none, some));
      never = λ has.
          let m = later.never (subst (λ r. HasEnded r task) is (ended_by p event task may has)) in
          omega (arith, sum, none, m);
    }
    joins next rest may is later (inr (how, same, few)) =
        let may' = subst (λ e. allowed p e ≡ true) same may in
        let has : HasEnded next task =
        subst (λ r. HasEnded r task) (ap (λ e. step p e) (sym same) ∙ is)
        (ended_then p task how may') in
        let m = later.never has in
        record {
          once = omega (arith, sum, few, m);
          ended = λ some. stays_ended next q task events has rest;
          never = λ was. absurd (never_finished p task how was may');
        }
