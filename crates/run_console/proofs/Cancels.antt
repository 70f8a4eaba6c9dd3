-- A line that cancels a scope: what it is answered, what is buffered, and whether it is rejected.
use Rattle.std.specs.Prelude.{◌≡◌, not, if◌then◌else◌, Bool, true, false, ℕ, List, [], ◌∷◌, ◌++◌}
use Rattle.std.specs.Prelude.{Option, Some, None, Result, Ok, Err, codes}
use Rattle.std.specs.Option.{option_or, option_to_list}
use Rattle.std.specs.List.{list_all}
use Rattle.std.proofs.Common.{refl, subst, sym, ap, ◌∙◌, append-nil}
use Rattle.run_model.specs.declared.answers.Answer.{Answer}
use Rattle.run_model.specs.declared.answers.Reply.TheVariants as answered
use Rattle.run_model.specs.declared.commands.Command.{Command}
use Rattle.run_model.specs.declared.commands.Command.TheVariants as command
use Rattle.run_model.specs.declared.commands.Step.TheVariants as step
use Rattle.run_model.specs.declared.refusals.Refusal.{Refusal}
use Rattle.run_model.specs.Event.{Event}
use Rattle.run_model.specs.Replies.{and_then, answer_of, decide, state_after}
use Rattle.run_model.specs.Session.{Session, replied}
use Rattle.run_model.specs.State.{State}
use Rattle.run_model.specs.Texts.{is_name, is_text}
use Rattle.run_disk.specs.Disk.{DiskState}
use Rattle.book_model.specs.Books.{BookView, CarriesOn}
use Rattle.book_model.specs.Steps.{AnswersStep}
use Rattle.console_lines.specs.declared.line_requests.LineRequest.{LineRequest}
use Rattle.console_lines.specs.declared.line_requests.LineRequest.TheVariants as asked
use Rattle.console_lines.specs.declared.line_replies.LineReply.{LineReply}
use Rattle.console_lines.specs.declared.line_replies.LineReply.TheVariants as printed
use Rattle.console_lines.specs.declared.rejections.Rejection.{Rejection}
use Rattle.console_lines.specs.LineRequests.{request_of, asks_cancel}
use Rattle.console_lines.specs.Buffered.{Buffered}
use Rattle.console_lines.specs.Checked.{asks}
use Rattle.console_lines.specs.Replies.{reply_line, reply_text, step_text}
use Rattle.console_lines.specs.Script.{replies_to, reply}
use Rattle.console_lines.specs.Strict.{rejection_among, rejection_at, rejection_by, rejection_of}
use Rattle.console_lines.proofs.Buffered.{buffered_more}
use Rattle.run_console.specs.RunProgress.{Lasts, Obeys, RunsRequest}
use Rattle.run_console.specs.SavingLines.{IsSaving}
use Rattle.run_console.specs.TakenSteps.{TakesAll, steps_asked}
use Rattle.run_console.proofs.Doing.{does_none}
use Rattle.run_console.proofs.LineSteps.{line_obeyed, line_replies, line_rejected}
use Rattle.run_console.proofs.Lines.{ran_line}
use Rattle.run_console.proofs.Saving.{no_fault, step_answers}

-- A command that the book answered was obeyed.
obeyed : {D : Type 0} (state : D → DiskState) (b c : BookView D) (call : Command)
    (r : Result Answer Refusal)
    → b.journal.broken ≡ false
    → AnswersStep state b (step.Command call) (replied answered.Answer r) c
    → CarriesOn state b c
    → Lasts b.session c.session
    → Obeys state (asks call) r b c
obeyed state b c call r sound one on lasts = record {
  reply = printed.Step (replied answered.Answer r);
  does = step_answers state b c (step.Command call) (replied answered.Answer r) sound one
      (Ok (Some (printed.Step (replied answered.Answer r)))) on lasts refl
      (no_fault answered.Answer r (λ a. refl)) tt tt;
  text = refl;
  rejected = refl;
}

-- A line that is refused by itself leaves the book.
refused_alone : {D : Type 0} (state : D → DiskState) (b : BookView D) (why : Refusal)
    → b.journal.broken ≡ false
    → Obeys state (asked.Refused why) (Err why) b b
refused_alone state b why sound = record {
  reply = printed.Refused why;
  does = does_none refl refl (λ h. h) sound refl;
  text = refl;
  rejected = refl;
}

-- What is buffered of the answer is the reply to the line.
answer_line : {D : Type 0} (state : D → DiskState) (b c : BookView D) (line : List ℕ)
    (a : LineRequest) (r : Result Answer Refusal)
    → a ≡ request_of line
    → Obeys state a r b c
    → step_text (replied answered.Answer r) ++ 10 ∷ [] ≡ reply b.session line
answer_line state b c line a r read it =
    ap (λ t. t ++ 10 ∷ []) (sym it.text)
    ∙ sym (append-nil (reply_line it.reply))
    ∙ line_replies b.session line a (it.reply ∷ []) read it.does.replied

-- ---- a cancel is answered `ok`, if it isn't refused

first_is : (x y : LineReply) → x ∷ [] ≡ y ∷ [] → x ≡ y
first_is x y h = cc

refused_no_answer : (why : Refusal) (r : Result Answer Refusal) (got : Answer)
    → rejection_of (printed.Refused why) ≡ rejection_of (printed.Step (replied answered.Answer r))
    → r ≡ Ok got → ⊥
refused_no_answer why r got same ok =
    cc (same ∙ ap (λ (x : Result Answer Refusal).
    rejection_of (printed.Step (replied answered.Answer x))) ok)

cancel_done : (p : State) (log : ℕ) (scope : List ℕ) (cause : Option (List ℕ))
    (made : Result (Option Event) Refusal) (r : Result Answer Refusal) (got : Answer)
    → rejection_of (printed.Step (replied answered.Answer (and_then made
    (λ made. Ok (answer_of p (state_after p made) (command.Cancel scope cause))))))
    ≡ rejection_of (printed.Step (replied answered.Answer r))
    → r ≡ Ok got
    → reply_text (printed.Step (replied answered.Answer (and_then made
    (λ made. Ok (answer_of p (state_after p made) (command.Cancel scope cause))))))
    ≡ codes "ok"
cancel_done p log scope cause (Ok made) r got same ok = refl
cancel_done p log scope cause (Err why) r got same ok =
    absurd (refused_no_answer why r got same ok)

done_by : (s : Session) (x y : Bool) (why other : Refusal) (scope : List ℕ)
    (cause : Option (List ℕ)) (it : LineReply) (r : Result Answer Refusal) (got : Answer)
    → it ∷ [] ≡ replies_to s (if x then asked.Refused why else
    if y then asked.Refused other else asks (command.Cancel scope cause))
    → rejection_of it ≡ rejection_of (printed.Step (replied answered.Answer r))
    → r ≡ Ok got
    → reply_text it ≡ codes "ok"
done_by s true y why other scope cause it r got is same ok =
    absurd (refused_no_answer why r got (ap rejection_of (sym (first_is it _ is)) ∙ same) ok)
done_by s false true why other scope cause it r got is same ok =
    absurd (refused_no_answer other r got (ap rejection_of (sym (first_is it _ is)) ∙ same) ok)
done_by s false false why other scope cause it r got is same ok =
    ap reply_text (first_is it _ is)
    ∙ cancel_done s.state s.log scope cause (decide s.state s.log (command.Cancel scope cause)) r
    got (ap rejection_of (sym (first_is it _ is)) ∙ same) ok

-- What is buffered of an answer is the reply to the line.
pub done_line : {D : Type 0} (state : D → DiskState) (b c : BookView D) (line scope : List ℕ)
    (cause : Option (List ℕ)) (r : Result Answer Refusal) (got : Answer)
    → asks_cancel scope cause ≡ request_of line
    → Obeys state (asks_cancel scope cause) r b c
    → r ≡ Ok got
    → codes "ok\n" ≡ reply b.session line
done_line state b c line scope cause r got read it ok =
    ap (λ t. t ++ 10 ∷ []) (sym (done_by b.session (not (list_all is_name (scope ∷ [])))
    (not (list_all is_text (option_to_list cause))) _ _ scope cause it.reply r got it.does.replied
    it.rejected ok))
    ∙ sym (append-nil (reply_line it.reply))
    ∙ line_replies b.session line (asks_cancel scope cause) (it.reply ∷ []) read it.does.replied

-- A refusal is the reply to the line.
pub refused_line : {D : Type 0} (state : D → DiskState) (b c : BookView D) (line scope : List ℕ)
    (cause : Option (List ℕ)) (r : Result Answer Refusal) (why : Refusal)
    → asks_cancel scope cause ≡ request_of line
    → Obeys state (asks_cancel scope cause) r b c
    → r ≡ Err why
    → reply_line (printed.Refused why) ≡ reply b.session line
refused_line state b c line scope cause r why read it refused =
    ap (λ (x : Result Answer Refusal). step_text (replied answered.Answer x) ++ 10 ∷ [])
    (sym refused)
    ∙ answer_line state b c line (asks_cancel scope cause) r read it

-- Why an answer to a command rejects its line, if it does.
abbrev pub answer_rejection : Result Answer Refusal → Option Rejection
answer_rejection r = rejection_of (printed.Step (replied answered.Answer r))

-- An answer to a command is no bad line.
by_none : (r : Result Answer Refusal) (line : List ℕ)
    → rejection_of (printed.Step (replied answered.Answer r))
    ≡ rejection_by (option_or (rejection_of (printed.Step (replied answered.Answer r))) None) line
by_none (Ok answer) line = refl
by_none (Err why) line = refl

-- The line is rejected by the answer alone.
answer_rejected : {D : Type 0} (state : D → DiskState) (b c : BookView D) (line : List ℕ)
    (a : LineRequest) (r : Result Answer Refusal)
    → a ≡ request_of line
    → Obeys state a r b c
    → rejection_of (printed.Step (replied answered.Answer r)) ≡ rejection_at b.session line
answer_rejected state b c line a r read it =
    by_none r line
    ∙ ap (λ (x : Option Rejection). rejection_by (option_or x None) line) (sym it.rejected)
    ∙ line_rejected b.session line line a (it.reply ∷ []) (rejection_among (it.reply ∷ [])) read
    it.does.replied refl refl

no_save : (x y : Bool) (why other : Refusal) (call : Command)
    → IsSaving (if x then asked.Refused why else if y then asked.Refused other else asks call) → ⊥
no_save true y why other call h = h
no_save false true why other call h = h
no_save false false why other call h = h

-- A cancel is no flush and no checkpoint.
cancel_saves_none : (scope : List ℕ) (cause : Option (List ℕ))
    → IsSaving (asks_cancel scope cause) → ⊥
cancel_saves_none scope cause h =
    no_save (not (list_all is_name (scope ∷ []))) (not (list_all is_text (option_to_list cause)))
    _ _ (command.Cancel scope cause) h

-- ---- what a cancel leaves

-- A command that was obeyed, if the line asks for it.
pub cancel_obeyed : {D : Type 0} (state : D → DiskState) (b c : BookView D)
    (asked_for : LineRequest) (call : Command) (r : Result Answer Refusal)
    → asked_for ≡ asks call
    → b.journal.broken ≡ false
    → AnswersStep state b (step.Command call) (replied answered.Answer r) c
    → CarriesOn state b c
    → Lasts b.session c.session
    → Obeys state asked_for r b c
cancel_obeyed state b c asked_for call r is sound one on lasts =
    subst (λ (q : LineRequest). Obeys state q r b c) (sym is)
    (obeyed state b c call r sound one on lasts)

-- A line that is refused by itself.
pub cancel_refused : {D : Type 0} (state : D → DiskState) (b : BookView D) (asked_for : LineRequest)
    (why : Refusal)
    → asked_for ≡ asked.Refused why
    → b.journal.broken ≡ false
    → Obeys state asked_for (Err why) b b
cancel_refused state b asked_for why is sound =
    subst (λ (q : LineRequest). Obeys state q (Err why) b b) (sym is)
    (refused_alone state b why sound)

-- What is left of a line if this was appended as its reply.
pub cancel_runs : {D : Type 0} (state : D → DiskState) (b d : BookView D) (scope : List ℕ)
    (cause : Option (List ℕ)) (ends : Bool) (r : Result Answer Refusal) (why : Option Rejection)
    (before m buffer : List ℕ) (w0 w1 : Option (List ℕ))
    → Obeys state (asks_cancel scope cause) r b d
    → Buffered [] before m w0 w1
    → ((line : List ℕ) → asks_cancel scope cause ≡ request_of line
    → buffer ≡ m ++ reply b.session line)
    → why ≡ answer_rejection r
    → RunsRequest state (asks_cancel scope cause) ends (Ok why) b d before buffer w0 w1
cancel_runs state b d scope cause ends r why before m buffer w0 w1 it room reported rejected =
    let a = asks_cancel scope cause in
    record {
      ran = λ line e.
          ran_line (line_obeyed b.session d.session line a (sym e) it.does.session)
          (subst (λ (q : LineRequest). TakesAll state b (steps_asked q) d) (sym e) it.does.taken)
          it.does.lasts
          (buffered_more (reply b.session line) before m buffer w0 w1 room (reported line (sym e)));
      cut = λ line e. tt;
      rejected = λ line e is. rejected ∙ answer_rejected state b d line a r (sym e) it;
      sound = it.does.sound;
      saved = λ saving. absurd (cancel_saves_none scope cause saving);
    }
