-- The effect of a refused step.
use Rattle.run_model.proofs.Common.{◌≡◌, ◌+◌, ℕ, [], ◌∷◌, Option, Some, None, Result, Ok, Err}
use Rattle.run_model.proofs.Common.{slice_get, refl, sym, ap, ◌∙◌, option_map, option_and_then}
use Rattle.run_model.proofs.Common.{ok_or, Event, State, first_ready, decide, decide_start}
use Rattle.run_model.proofs.Common.{decide_finish, and_then, started_of, answer_of, state_after}
use Rattle.run_model.proofs.Common.{Session, event_of_step, with_event, session_after, replied}
use Rattle.run_model.proofs.Common.{reply_of_step, result_unwrap_or, row_there}
use Rattle.run_model.specs.declared.tasks.Task.{Task}
use Rattle.run_model.specs.declared.answers.Reply.{Reply}
use Rattle.run_model.specs.declared.answers.Reply.TheVariants as reply
use Rattle.run_model.specs.declared.answers.Started.{Started}
use Rattle.run_model.specs.declared.commands.Step.{Step}
use Rattle.run_model.specs.declared.commands.Step.TheVariants as step
use Rattle.run_model.specs.declared.refusals.Refusal.{Refusal}
use Rattle.run_model.specs.declared.refusals.Refusal.TheVariants as refusal
use Rattle.run_model.specs.Replies.{is_task_done}
use Rattle.model_laws.proofs.Searching.{first_is_least, ready_within}
use Rattle.model_laws.proofs.StartingReplies.{start_first}

-- A decision whose answer can't be refused any more is refused itself.
refused_decision : {X : Type 0} (r : Result (Option Event) Refusal)
    → (f : Option Event → Result X Refusal) (answer : X → Reply) (why : Refusal)
    → ((o : Option Event) → r ≡ Ok o → (x : X) × (f o ≡ Ok x))
    → ((x : X) → answer x ≡ reply.Refused why → ⊥)
    → replied answer (and_then r f) ≡ reply.Refused why → result_unwrap_or r None ≡ None
refused_decision (Err e) f answer why answered other refused = refl
refused_decision (Ok o) f answer why answered other refused =
    let known = answered o refl in
    absurd (other known.0 (sym (ap (replied answer) known.1) ∙ refused))

row_started : (p : State) (n : ℕ) (row : Task) → first_ready p.work ≡ Some n
    → slice_get p.work.tasks n ≡ Some row
    → (x : Started)
    × (ok_or (option_and_then (started_of p) (first_ready p.work)) refusal.NothingReady ≡ Ok x)
row_started p n row first found = (
  started p n row,
  ap (λ (o : Option ℕ). ok_or (option_and_then (started_of p) o) refusal.NothingReady) first
      ∙ ap (λ (o : Option Task). ok_or (option_map (started p n) o) refusal.NothingReady) found,
)
  where
    started : State → ℕ → Task → Started
    started p n task = record {
      event = p.count + 1;
      info = record { task = n; job = task.job; argument = task.argument };
      done = is_task_done p task;
    }

start_answered : (p : State) (log : ℕ) (o : Option Event) → decide_start p log ≡ Ok o
    → (x : Started)
    × (ok_or (option_and_then (started_of p) (first_ready p.work)) refusal.NothingReady ≡ Ok x)
start_answered p log o e =
    let found = start_first p log o e in
    let least = first_is_least p.work found.0 found.1 in
    let task = row_there p.work.tasks found.0 (ready_within p.work found.0 least.ready) in
    row_started p found.0 task.0 found.1 task.1

-- A refused step makes no event.
refused_none : (s : Session) (x : Step) (why : Refusal)
    → reply_of_step s x ≡ reply.Refused why → event_of_step s x ≡ None
refused_none s (step.Command call) why refused =
    let reported = λ (o : Option Event). answer_of s.state (state_after s.state o) call in
    refused_decision (decide s.state s.log call) (λ o. Ok (reported o)) reply.Answer why
    (λ o e. (reported o, refl)) (λ x e. cc) refused
refused_none s step.Start why refused =
    let p : State = s.state in
    refused_decision (decide_start p s.log) _ reply.Started why (start_answered p s.log)
    (λ x e. cc) refused
refused_none s (step.Finish n outcome) why refused =
    let reported : ℕ = s.state.count + 1 in
    refused_decision (decide_finish s.state n outcome) (λ o. Ok reported) reply.Finished why
    (λ o e. (reported, refl)) (λ x e. cc) refused
refused_none s step.Flush why refused = cc
refused_none s step.Checkpoint why refused = cc

-- A refused step leaves the session as it was.
pub refused_leaves : (s : Session) (x : Step) (why : Refusal)
    → reply_of_step s x ≡ reply.Refused why → session_after s (x ∷ []) ≡ s
refused_leaves s x why refused = ap (with_event s) (refused_none s x why refused)
