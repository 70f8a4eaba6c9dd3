-- Where a row of steps is reported, each of its tasks was started by the row.
use Rattle.std.specs.Prelude.{◌≡◌, ℕ, Bool, true, false, cond, List, [], ◌∷◌, Option, Some}
use Rattle.std.specs.Prelude.{None, All, Contains}
use Rattle.std.specs.List.{AllByRecursion, cons_option}
use Rattle.std.specs.Option.{option_and_then, option_map}
use Rattle.std.proofs.Common.{ap, sym, subst, refl}
use Rattle.std.specs.Result.{result_unwrap_or}
use Rattle.std.proofs.lemmas.List.Elements.{All-from_recursion}
use Rattle.std.proofs.lemmas.Option.{same_Some}
use Rattle.run_model.specs.declared.answers.Reply.{Reply}
use Rattle.run_model.specs.declared.commands.Step.{Step}
use Rattle.run_model.specs.declared.commands.Step.TheVariants as step
use Rattle.run_model.specs.Event.{Event}
use Rattle.run_model.specs.Event as event
use Rattle.run_model.specs.Session.{Session, accepted, after_step, event_of_step, replies}
use Rattle.run_model.specs.Session.{reply_of_step}
use Rattle.run_model.specs.State.{State}
use Rattle.night_plan.specs.declared.commands.Command.{Command}
use Rattle.night_drive.specs.declared.names.Names.{Names}
use Rattle.drive_steps.specs.declared.reported.Begun.{Begun}
use Rattle.drive_steps.specs.Reported.{begins_reported, is_answer, task_in}
use Rattle.drive_steps.specs.Starts.{next_try, row_of}
use Rattle.drive_steps.proofs.Playing.{contains_here, contains_there}
use Rattle.drive_steps.proofs.Starting.{starts}

-- The second reply names a task, and the others report the rest.
record One (second : Reply) (rest : Option (List Begun)) (c : ℕ) (begun : List Begun)
    : Type 0 where
  task : ℕ
  named : task_in second ≡ Some task
  others : List Begun
  reported : rest ≡ Some others
  all : begun ≡ record { command = c; task = task } ∷ others

one : (first second : Reply) (rest : Option (List Begun)) (c : ℕ) (begun : List Begun)
    → option_and_then (λ task. option_map (λ others. record { command = c; task = task } ∷ others)
    rest) (cond (is_answer first) (task_in second) None) ≡ Some begun
    → One second rest c begun
one first second rest c begun e =
    by_answer (is_answer first) (task_in second) rest refl refl e
  where
    by_answer : (b : Bool) (o : Option ℕ) (more : Option (List Begun))
        → task_in second ≡ o → rest ≡ more
        → option_and_then (λ task. option_map (λ others. record { command = c; task = task }
        ∷ others) more) (cond b o None) ≡ Some begun
        → One second rest c begun
    by_answer false o more named reported e = cc
    by_answer true None more named reported e = cc
    by_answer true (Some task) None named reported e = cc
    by_answer true (Some task) (Some others) named reported e = record {
      task = task;
      named = named;
      others = others;
      reported = reported;
      all = sym (same_Some (record { command = c; task = task } ∷ others) begun e);
    }

-- These tasks were started by these events.
abbrev StartsAre : List Event → List Begun → Type 0
StartsAre events begun =
    AllByRecursion (λ (begin : Begun). Contains events (event.Start begin.task)) begun

-- Events before them change nothing about that.
contains_option : (o : Option Event) (xs : List Event) (x : Event) → Contains xs x
    → Contains (cons_option o xs) x
contains_option None xs x has = has
contains_option (Some e) xs x has = contains_there xs e x has

started_later : (a b : Option Event) (events : List Event) (begun : List Begun)
    → StartsAre events begun → StartsAre (cons_option a (cons_option b events)) begun
started_later a b events [] all = tt
started_later a b events (begin ∷ begun) (has, all) = (
  contains_option a (cons_option b events) (event.Start begin.task)
      (contains_option b events (event.Start begin.task) has),
  started_later a b events begun all,
)

started_by : (s : Session) (p : State) (names : Names) (commands : List Command)
    (chosen : List ℕ) (begun : List Begun)
    → begins_reported chosen (replies s (row_of p names commands chosen)) ≡ Some begun
    → StartsAre (accepted s (row_of p names commands chosen)) begun
started_by s p names commands [] [] e = tt
started_by s p names commands [] (begin ∷ begun) e = absurd (cc (e))
started_by s p names commands (c ∷ chosen) begun e =
    let asked : Step = step.Command (next_try p names commands c) in
    let s1 : Session = after_step s asked in
    let s2 : Session = after_step s1 step.Start in
    let row = row_of p names commands chosen in
    let parts = one (reply_of_step s asked) (reply_of_step s1 step.Start)
    (begins_reported chosen (replies s2 row)) c begun e in
    let begins = starts s1 parts.task parts.named in
    let second : event_of_step s1 step.Start ≡ Some (event.Start parts.task) =
    ap (λ x. result_unwrap_or x None) begins.decided in
    let here : Contains (cons_option (event_of_step s1 step.Start) (accepted s2 row))
    (event.Start parts.task) =
    subst (λ (o : Option Event). Contains (cons_option o (accepted s2 row))
    (event.Start parts.task)) (sym second)
    (contains_here (accepted s2 row) (event.Start parts.task)) in
    subst (λ (all : List Begun). StartsAre (accepted s (asked ∷ step.Start ∷ row)) all)
    (sym parts.all) (
      contains_option (event_of_step s asked)
          (cons_option (event_of_step s1 step.Start) (accepted s2 row)) (event.Start parts.task)
          here,
      started_later (event_of_step s asked) (event_of_step s1 step.Start) (accepted s2 row)
          parts.others
          (started_by s2 p names commands chosen parts.others parts.reported),
    )

pub all_started : (s : Session) (p : State) (names : Names) (commands : List Command)
    (chosen : List ℕ) (begun : List Begun)
    → begins_reported chosen (replies s (row_of p names commands chosen)) ≡ Some begun
    → All (λ (begin : Begun). Contains (accepted s (row_of p names commands chosen))
    (event.Start begin.task)) begun
all_started s p names commands chosen begun e =
    All-from_recursion (λ (begin : Begun).
    Contains (accepted s (row_of p names commands chosen)) (event.Start begin.task)) begun
    (started_by s p names commands chosen begun e)
