-- If the start of a task was acknowledged, no later session starts the task.
use Rattle.run_model.proofs.Common.{◌≡◌, ℕ, false, List, [], ◌∷◌, ◌++◌, Some, sym, subst, inl, inr}
use Rattle.run_model.proofs.Common.{cond_some, option_and_then_some, allowed, after, run, Event}
use Rattle.run_model.proofs.Common.{acknowledged, State, step}
use Rattle.run_model.specs.declared.answers.Reply.{Reply}
use Rattle.run_model.specs.declared.commands.Step.{Step}
use Rattle.run_model.specs.Event as event
use Rattle.model_laws.proofs.StartedOnce.{Begun, begun_by, never_again, starts, still}
use Rattle.book_model.specs.ManyNights.{LeadOver, Leads, Night, InVain, Spent, answers_of}
use Rattle.book_model.specs.ManyNights.{steps_of}
use Rattle.book_model.specs.Nights.{opened_from}

-- Among the events that led to a state its start is: then it was started.
through : (before later further : List Event) (p q : State) (n : ℕ)
    → run p ((before ++ event.Start n ∷ later) ++ further) ≡ Some q → Begun q.work.tasks n
through [] later further p q n led =
    option_and_then_some (λ next. run next (later ++ further)) (after p (event.Start n)) q led
    (λ next first rest.
    let parts = cond_some (allowed p (event.Start n)) (step p (event.Start n)) next first in
    still (later ++ further) next q n
    (subst (λ r. Begun r.work.tasks n) parts.1 (starts p n parts.0)) rest)
through (e ∷ before) later further p q n led =
    option_and_then_some (λ next. run next ((before ++ event.Start n ∷ later) ++ further))
    (after p e) q led
    (λ next first rest. through before later further next q n rest)

-- A night leaves it so.
begun_night : (night : Night) (p q : State) (n : ℕ) → Begun p.work.tasks n → Leads p night q
    → Begun q.work.tasks n
begun_night InVain p q n has leads =
    elim leads [
      | inl same ↦ subst (λ r. Begun r.work.tasks n) (sym same) has
      | inr again ↦ subst (λ r. Begun r.work.tasks n) (sym again) (begun_by p event.Restart n has)
    ]
begun_night (Spent calls more) p q n has leads =
    still
    (event.Restart
    ∷ (acknowledged (opened_from p) (steps_of calls) (answers_of calls) ++ leads.further)) p q n has
    leads.reached

-- So do many nights.
begun_over : (nights : List Night) (p q : State) (n : ℕ) → Begun p.work.tasks n
    → LeadOver p nights q → Begun q.work.tasks n
begun_over [] p q n has leads = subst (λ r. Begun r.work.tasks n) (sym leads) has
begun_over (night ∷ nights) p q n has (next, first, rest) =
    begun_over nights next q n (begun_night night p next n has first) rest

pub started_in_none : (p q : State) (calls : List (Step × Reply)) (more : List Step)
    (nights : List Night) (n : ℕ) (before later : List Event)
    → acknowledged (opened_from p) (steps_of calls) (answers_of calls)
    ≡ before ++ event.Start n ∷ later
    → LeadOver p (Spent calls more ∷ nights) q → allowed q (event.Start n) ≡ false
started_in_none p q calls more nights n before later acked (next, first, rest) =
    let led : run p (event.Restart ∷ ((before ++ event.Start n ∷ later) ++ first.further))
    ≡ Some next =
    subst (λ acks. run p (event.Restart ∷ (acks ++ first.further)) ≡ Some next) acked
    first.reached in
    never_again q n
    (begun_over nights next q n
    (through (event.Restart ∷ before) later first.further p next n led) rest)
