-- A step that isn't refused leads to its event.
use Rattle.std.proofs.Common.{◌≡◌, ◌∙◌, Bool, true, false, cond, List, [], ◌∷◌, ◌++◌, Option, Some}
use Rattle.std.proofs.Common.{None, Result, Ok, Err, ap, refl, sym}
use Rattle.std.specs.List.{list_all}
use Rattle.std.specs.Result.{result_unwrap_or}
use Rattle.run_model.proofs.Common.{and_from, and_parts, unless_Ok}
use Rattle.run_model.specs.Allowed.{refusals}
use Rattle.run_model.specs.declared.answers.Answer.{Answer}
use Rattle.run_model.specs.declared.answers.Reply.TheVariants as reply
use Rattle.run_model.specs.declared.commands.Command.{Command}
use Rattle.run_model.specs.declared.commands.Step.{Step}
use Rattle.run_model.specs.declared.commands.Step.TheVariants as step
use Rattle.run_model.specs.declared.refusals.Refusal.{Refusal}
use Rattle.run_model.specs.declared.refusals.Refusal.TheVariants as refusal
use Rattle.run_model.specs.Event.{Event}
use Rattle.run_model.specs.Replies.{decide, event_of, if_room, is_full, is_repeated}
use Rattle.run_model.specs.Replies.{reply as result_of}
use Rattle.run_model.specs.Rules.{IsConsistent}
use Rattle.run_model.specs.Session.{Session, accepted, after_step, event_of_step, replied, replies}
use Rattle.run_model.specs.Session.{reply_of_step, session_after, with_event}
use Rattle.model_laws.proofs.Passing.{and_then_Ok, new_decide}
use Rattle.model_laws.proofs.StateSteps.{run_keeps}
use Rattle.model_laws.proofs.Stepping.{accepted_runs}
use Rattle.drive_nights.specs.Effects.{AreTaken, is_taken}

pub steps_join : (first second : List Step) (s : Session)
    → session_after s (first ++ second) ≡ session_after (session_after s first) second
steps_join [] second s = refl
steps_join (x ∷ first) second s = steps_join first second (after_step s x)

pub taken_join : (first second : List Step) (s : Session) → AreTaken s (first ++ second)
    → AreTaken s first × AreTaken (session_after s first) second
taken_join [] second s taken = (refl, taken)
taken_join (x ∷ first) second s taken =
    let parts = and_parts (is_taken (reply_of_step s x))
    (list_all is_taken (replies (after_step s x) (first ++ second))) taken in
    let rest = taken_join first second (after_step s x) parts.1 in (
      and_from (is_taken (reply_of_step s x)) (list_all is_taken (replies (after_step s x) first))
          parts.0 rest.0,
      rest.1,
    )

pub consistent_after : (s : Session) (steps : List Step) → IsConsistent s.state
    → IsConsistent (session_after s steps).state
consistent_after s steps consistent =
    run_keeps (accepted s steps) s.state (session_after s steps).state consistent
    (accepted_runs s steps)

taken_ok : (r : Result Answer Refusal) → is_taken (replied reply.Answer r) ≡ true
    → (answer : Answer) × (r ≡ Ok answer)
taken_ok (Ok answer) e = (answer, refl)
taken_ok (Err why) e = cc

room_makes : (full : Bool) (made : Event) (o : Option Event)
    → cond full (Err refusal.SessionFull) (Ok (Some made)) ≡ Ok o → o ≡ Some made
room_makes true made o e = cc
room_makes false made o e = cc

pub command_made : (s : Session) (call : Command) → is_repeated s.state call ≡ false
    → is_taken (reply_of_step s (step.Command call)) ≡ true
    → event_of_step s (step.Command call) ≡ Some (event_of s.state call)
command_made s call new taken =
    let answer = taken_ok (result_of s.state s.log call) taken in
    let made = and_then_Ok (decide s.state s.log call) _ answer.0 answer.1 in
    let asked : Event = event_of s.state call in
    let passed = unless_Ok (refusals s.state asked) (if_room s.state s.log asked) made.0
    (sym (new_decide s.state s.log call new) ∙ made.1) in
    ap (λ r. result_unwrap_or r None) made.1
    ∙ room_makes (is_full s.state s.log asked) asked made.0 passed.1

-- So the session goes on with that event.
pub command_taken : (s : Session) (call : Command) → is_repeated s.state call ≡ false
    → is_taken (reply_of_step s (step.Command call)) ≡ true
    → after_step s (step.Command call) ≡ with_event s (Some (event_of s.state call))
command_taken s call new taken = ap (with_event s) (command_made s call new taken)
