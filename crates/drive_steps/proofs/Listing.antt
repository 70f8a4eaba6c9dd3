-- Which events the steps of a row lead to.
use Rattle.std.proofs.Common.{arith, map, ◌≡◌, ℕ, zero, suc, List, [], ◌∷◌, ◌++◌, Option, Some}
use Rattle.std.proofs.Common.{None, slice_get}
use Rattle.std.proofs.Common.{ap, sym, subst}
use Rattle.std.proofs.lemmas.Option.{none-some, same_Some}
use Rattle.std.specs.List.{Contains, cons_option}
use Rattle.run_model.specs.declared.commands.Step.{Step}
use Rattle.run_model.specs.declared.commands.Step.TheVariants as step
use Rattle.run_model.specs.Event.{Event}
use Rattle.run_model.specs.Event as event
use Rattle.run_model.specs.Session.{Session, accepted, after_step, event_of_step, session_after}
use Rattle.run_model.specs.Session.{with_event}
use Rattle.night_plan.specs.declared.commands.Command.{Command}
use Rattle.night_drive.specs.declared.names.Names.{Names}
use Rattle.drive_steps.specs.declared.heard.Ended.{Ended}
use Rattle.drive_steps.specs.Heard.{AreEnds, finishes_of}
use Rattle.drive_steps.proofs.Hearing.{finish_made}
use Rattle.drive_steps.proofs.Playing.{contains_here, contains_there}

pub skip : (o : Option Event) (events : List Event) (e : Event) → Contains events e
    → Contains (cons_option o events) e
skip None events e listed = listed
skip (Some made) events e listed = contains_there events made e listed

-- What later steps lead to is among the events of all.
pub later_listed : (first second : List Step) (s : Session) (e : Event)
    → Contains (accepted (session_after s first) second) e
    → Contains (accepted s (first ++ second)) e
later_listed [] second s e listed = listed
later_listed (x ∷ first) second s e listed =
    skip (event_of_step s x) (accepted (after_step s x) (first ++ second)) e
    (later_listed first second (after_step s x) e listed)

-- And so is what earlier steps lead to.
pub earlier_listed : (first second : List Step) (s : Session) (e : Event)
    → Contains (accepted s first) e → Contains (accepted s (first ++ second)) e
earlier_listed [] second s e (k, less, is) = absurd (omega (arith, less))
earlier_listed (x ∷ first) second s e listed =
    by_event (event_of_step s x) listed
    (λ more. earlier_listed first second (after_step s x) e more)
  where
    by_event : (o : Option Event)
        → Contains (cons_option o (accepted (after_step s x) first)) e
        → (Contains (accepted (after_step s x) first) e
        → Contains (accepted (after_step s x) (first ++ second)) e)
        → Contains (cons_option o (accepted (after_step s x) (first ++ second))) e
    by_event None listed more = more listed
    by_event (Some made) (zero, less, is) more = (zero, omega arith, is)
    by_event (Some made) (suc k, less, is) more =
        contains_there (accepted (after_step s x) (first ++ second)) made e
        (more (k, omega (arith, less), is))

-- Each finish is among the events.
pub ends_listed : (row : List (Ended × ℕ)) (s : Session) (names : Names)
    (commands : List Command) (more : List Step) → AreEnds s.state names commands row → (i : ℕ)
    (part : Ended × ℕ) → slice_get row i ≡ Some part
    → Contains (accepted s (finishes_of (map (λ x. x.0) row) ++ more))
    (event.Finish part.0.task part.0.outcome)
ends_listed [] s names commands more are i part at = absurd (none-some part at)
ends_listed ((end, c) ∷ row) s names commands more are i part at =
    let made : event_of_step s (step.Finish end.task end.outcome)
    ≡ Some (event.Finish end.task end.outcome) =
    finish_made s end.task end.outcome are.0.runs in
    let s1 : Session = with_event s (Some (event.Finish end.task end.outcome)) in
    let rest : List Step = finishes_of (map (λ x. x.0) row) ++ more in
    let events : accepted s (step.Finish end.task end.outcome ∷ rest)
    ≡ event.Finish end.task end.outcome ∷ accepted s1 rest =
    ap (λ o. cons_option o (accepted (with_event s o) rest)) made in
    subst (λ (es : List Event). Contains es (event.Finish part.0.task part.0.outcome)) (sym events)
    (by_place i at (λ j there. ends_listed row s1 names commands more are.1 j part there))
  where
    by_place : (i : ℕ) → slice_get ((end, c) ∷ row) i ≡ Some part
        → ((j : ℕ) → slice_get row j ≡ Some part
        → Contains (accepted (with_event s (Some (event.Finish end.task end.outcome)))
        (finishes_of (map (λ x. x.0) row) ++ more)) (event.Finish part.0.task part.0.outcome))
        → Contains (event.Finish end.task end.outcome
        ∷ accepted (with_event s (Some (event.Finish end.task end.outcome)))
        (finishes_of (map (λ x. x.0) row) ++ more)) (event.Finish part.0.task part.0.outcome)
    by_place zero at later =
        subst (λ (x : Ended × ℕ). Contains (event.Finish end.task end.outcome
        ∷ accepted (with_event s (Some (event.Finish end.task end.outcome)))
        (finishes_of (map (λ y. y.0) row) ++ more)) (event.Finish x.0.task x.0.outcome))
        (same_Some (end, c) part at)
        (contains_here (accepted (with_event s (Some (event.Finish end.task end.outcome)))
        (finishes_of (map (λ y. y.0) row) ++ more)) (event.Finish end.task end.outcome))
    by_place (suc j) at later =
        contains_there (accepted (with_event s (Some (event.Finish end.task end.outcome)))
        (finishes_of (map (λ x. x.0) row) ++ more)) (event.Finish end.task end.outcome)
        (event.Finish part.0.task part.0.outcome) (later j at)
