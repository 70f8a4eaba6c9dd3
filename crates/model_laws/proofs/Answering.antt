-- The effect of an accepted call.
use Rattle.run_model.proofs.Common.{◌≡◌, ℕ, Bool, true, false, if◌then◌else◌, Option, Some, None}
use Rattle.run_model.proofs.Common.{Result, Ok, Err, refl, sym, ap, ◌∙◌, Event, State, refusals}
use Rattle.run_model.proofs.Common.{decide, is_repeated, is_full, if_room, and_then, event_of}
use Rattle.run_model.proofs.Common.{answer_of, state_after, Session, with_event, replied}
use Rattle.run_model.proofs.Common.{unless_Ok, result_unwrap_or, not, list_all}
use Rattle.run_model.specs.declared.answers.Answer.{Answer}
use Rattle.run_model.specs.declared.answers.Reply.TheVariants as reply
use Rattle.run_model.specs.declared.commands.Command.{Command}
use Rattle.run_model.specs.declared.refusals.Refusal.{Refusal}
use Rattle.run_model.specs.declared.refusals.Refusal.TheVariants as refusal
use Rattle.run_model.specs.Step as change
use Rattle.model_laws.specs.Answers.{Answered}
use Rattle.model_laws.proofs.Passing.{new_decide, repeated_decide}

-- ---- the decision that an answer comes from

pub state_of_event : (s : Session) (o : Option Event)
    → (with_event s o).state ≡ state_after s.state o
state_of_event s None = refl
state_of_event s (Some event) = refl

-- The state after a decision.
pub decided_state : (s : Session) (r : Result (Option Event) Refusal) (o : Option Event)
    → r ≡ Ok o → (with_event s (result_unwrap_or r None)).state ≡ state_after s.state o
decided_state s r o decided =
    ap (λ (x : Result (Option Event) Refusal). (with_event s (result_unwrap_or x None)).state)
    decided
    ∙ state_of_event s o

-- The decision, the answer and the state after them.
pub record Decision (s : Session) (call : Command) (a : Answer) (q : State) : Type 0 where
  pub event : Option Event
  pub decided : decide s.state s.log call ≡ Ok event
  pub answer : answer_of s.state q call ≡ a
  pub leaves : state_after s.state event ≡ q

-- An answer is of an accepted command.
accepted_answer : (s : Session) (call : Command) (a : Answer) (r : Result (Option Event) Refusal)
    → replied reply.Answer (and_then r (λ o. Ok (answer_of s.state (state_after s.state o) call)))
    ≡ reply.Answer a
    → (o : Option Event) × (r ≡ Ok o) × (answer_of s.state (state_after s.state o) call ≡ a)
accepted_answer s call a (Err why) e = cc
accepted_answer s call a (Ok o) e = (o, refl, cc)

decision_after : (s : Session) (call : Command) (a : Answer) (q : State) → Answered s call a q
    → Decision s call a q
decision_after s call a q answered =
    let p : State = s.state in
    let r : Result (Option Event) Refusal = decide p s.log call in
    let behind = accepted_answer s call a r answered.replied in
    let left = sym (decided_state s r behind.0 behind.1) ∙ answered.leaves in
    record {
      event = behind.0;
      decided = behind.1;
      answer = ap (λ (t : State). answer_of p t call) (sym left) ∙ behind.2;
      leaves = left;
    }

-- ---- what is carried out

-- The command isn't refused, and is carried out as its event.
pub record CarriedOut (s : Session) (call : Command) (a : Answer) (q : State) : Type 0 where
  pub may : list_all (λ t. not t.0) (refusals s.state (event_of s.state call)) ≡ true
  pub answer : answer_of s.state q call ≡ a
  pub leaves : q ≡ change.step s.state (event_of s.state call)

pub room_made : (p : State) (log : ℕ) (event : Event) (o : Option Event)
    → if_room p log event ≡ Ok o → o ≡ Some event
room_made p log event o e = go (is_full p log event) e
  where
    go : (full : Bool)
        → (if full then Err refusal.SessionFull else Ok (Some event)) ≡ Ok o → o ≡ Some event
    go true e = cc
    go false e = cc

pub carried_out : (s : Session) (call : Command) (a : Answer) (q : State)
    → is_repeated s.state call ≡ false → Answered s call a q → CarriedOut s call a q
carried_out s call a q new answered =
    let p : State = s.state in
    let behind = decision_after s call a q answered in
    let made : Event = event_of p call in
    let decided = sym (new_decide p s.log call new) ∙ behind.decided in
    let passed = unless_Ok (refusals p made) (if_room p s.log made) behind.event decided in
    record {
      may = passed.0;
      answer = behind.answer;
      leaves =
          sym behind.leaves
          ∙ ap (state_after p) (room_made p s.log made behind.event passed.1);
    }

same_Ok : {o : Option Event} → ◌≡◌ {A = Result (Option Event) Refusal} (Ok None) (Ok o)
    → o ≡ None
same_Ok e = cc

-- A repeated wait leaves the state as it was.
pub repeated_out : (s : Session) (call : Command) (a : Answer) (q : State)
    → is_repeated s.state call ≡ true → Answered s call a q
    → (q ≡ s.state) × (answer_of s.state q call ≡ a)
repeated_out s call a q repeated answered =
    let behind = decision_after s call a q answered in
    let none = same_Ok (sym (repeated_decide s.state s.log call repeated) ∙ behind.decided) in
    (sym behind.leaves ∙ ap (state_after s.state) none, behind.answer)
