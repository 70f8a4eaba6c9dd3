-- What a step leaves of a book that isn't broken, by what it was answered.
use Rattle.std.specs.Prelude.{◌≡◌, ◌||◌, true, false, ℕ, [], ◌∷◌, Option, Some, Result, Ok, Err}
use Rattle.std.specs.Prelude.{IfErr, IfOk, OnErr, OnOk}
use Rattle.std.specs.Option.{option_to_list}
use Rattle.std.proofs.Common.{inl, inr, refl, sym, subst, ap, ◌∙◌}
use Rattle.run_model.specs.declared.answers.Reply.{Reply}
use Rattle.run_model.specs.declared.answers.Reply.TheVariants as answered
use Rattle.run_model.specs.declared.commands.Command.{Command}
use Rattle.run_model.specs.declared.commands.Step.{Step}
use Rattle.run_model.specs.declared.commands.Step.TheVariants as step
use Rattle.run_model.specs.declared.faults.Fault.{Fault}
use Rattle.run_model.specs.declared.tasks.Outcome.{Outcome}
use Rattle.run_model.specs.declared.faults.Trouble.{Trouble}
use Rattle.run_model.specs.declared.faults.Trouble.TheVariants as trouble
use Rattle.run_model.specs.declared.refusals.Refusal.{Refusal}
use Rattle.run_model.specs.Session.{Session, after_step, replied, reply_of_step}
use Rattle.run_disk.specs.Disk.{DiskState}
use Rattle.book_model.specs.Books.{BookView, CarriesOn, Saves}
use Rattle.book_model.specs.Plays.{is_fault}
use Rattle.book_model.specs.Steps.{AnswersSound, AnswersStep, StepsOn, Takes, reply_of_save}
use Rattle.book_model.proofs.Rows.{row_one}
use Rattle.console_lines.specs.declared.line_requests.LineRequest.TheVariants as asked
use Rattle.console_lines.specs.declared.line_replies.LineReply.{LineReply}
use Rattle.console_lines.specs.declared.line_replies.LineReply.TheVariants as printed
use Rattle.run_console.specs.RunProgress.{Answers, Lasts, save_replied}
use Rattle.run_console.specs.SavingLines.{IsSaving}
use Rattle.run_console.proofs.Accounting.{as_sound, row_sound, true_false}
use Rattle.run_console.proofs.TakenSteps.{takes_one}

-- An answer is no fault.
pub no_fault : {X : Type 0} (f : X → Reply) (r : Result X Refusal)
    → ((x : X) → is_fault (f x) ≡ false) → is_fault (replied f r) ≡ false
no_fault f (Ok x) none = none x
no_fault f (Err why) none = refl

reported_faulty : (why : Trouble) (fault : Fault) (r : Reply) → why ≡ trouble.Faulty fault
    → r ≡ reply_of_save (Err why) → is_fault r ≡ true
reported_faulty why fault r e is = ap is_fault (is ∙ ap (λ w. reply_of_save (Err w)) e)

-- What is known of a step and its answer.
record Stepped {D : Type 0} (b : BookView D) (x : Step) (r : Reply) (c : BookView D)
    : Type 0 where
  pub session : c.session ≡ after_step b.session x
  pub is_reported : is_fault r ≡ false → r ≡ reply_of_step b.session x
  pub saved : is_fault r ≡ false → IsSaving (asked.Step x) → c.durable ≡ c.session.state.count
  pub saving : is_fault r ≡ true → IsSaving (asked.Step x)
  pub kept : is_fault r ≡ true → c.session ≡ b.session

module _ {D : Type 0} (state : D → DiskState) (b c : BookView D) where
  took : (x : Step) (r : Reply) → Takes b x r c → is_fault (reply_of_step b.session x) ≡ false
      → (IsSaving (asked.Step x) → ⊥) → Stepped b x r c
  took x r takes none other =
      let fine = ap is_fault takes.reported ∙ none in
      record {
        session = ap (λ (h : BookView D). h.session) takes.taken;
        is_reported = λ h. takes.reported;
        saved = λ h saving. absurd (other saving);
        saving = λ faulty. absurd (true_false (is_fault r) faulty fine);
        kept = λ faulty. absurd (true_false (is_fault r) faulty fine);
      }

  save_reported : (result : Result ℕ Trouble) (r : Reply) → b.journal.broken ≡ false
      → r ≡ reply_of_save result → Saves state b result c → is_fault r ≡ false
      → (r ≡ answered.Acked b.session.state.count) × (c.durable ≡ c.session.state.count)
  save_reported (Ok n) r sound is saves fine = (
    is ∙ ap answered.Acked saves.answer.counted,
    saves.answer.durable ∙ saves.answer.counted
        ∙ ap (λ (s : Session). s.state.count) (sym saves.session),
  )
  save_reported (Err why) r sound is saves fine = elim saves.answer [
    | inl refused ↦ absurd (true_false b.journal.broken refused.was sound)
    | inr (inl spent) ↦
        absurd (true_false (is_fault r) (reported_faulty why _ r spent.reported is) fine)
    | inr (inr failed) ↦
        absurd (true_false (is_fault r) (reported_faulty why _ r failed.reported is) fine)
  ]

  saved : (x : Step) (result : Result ℕ Trouble) (r : Reply) → b.journal.broken ≡ false
      → r ≡ reply_of_save result → Saves state b result c
      → reply_of_step b.session x ≡ answered.Acked b.session.state.count
      → after_step b.session x ≡ b.session → IsSaving (asked.Step x) → Stepped b x r c
  saved x result r sound is saves answer same saving = record {
    session = saves.session ∙ sym same;
    is_reported = λ fine. (save_reported result r sound is saves fine).0 ∙ sym answer;
    saved = λ fine h. (save_reported result r sound is saves fine).1;
    saving = λ faulty. saving;
    kept = λ faulty. saves.session;
  }

  stepped : (x : Step) (r : Reply) → b.journal.broken ≡ false → AnswersSound state b x r c
      → Stepped b x r c
  stepped (step.Command call) r sound takes =
      took (step.Command call) r takes (no_fault answered.Answer _ (λ a. refl)) (λ h. h)
  stepped step.Start r sound takes =
      took step.Start r takes (no_fault answered.Started _ (λ a. refl)) (λ h. h)
  stepped (step.Finish n outcome) r sound takes =
      took (step.Finish n outcome) r takes (no_fault answered.Finished _ (λ a. refl)) (λ h. h)
  stepped step.Flush r sound reports =
      saved step.Flush reports.result r sound reports.reported reports.saves.saves refl refl tt
  stepped step.Checkpoint r sound reports =
      saved step.Checkpoint reports.result r sound reports.reported reports.saves.saves refl refl tt

module _ {D : Type 0} (state : D → DiskState) (b c : BookView D) (x : Step) (r : Reply)
    (sound : b.journal.broken ≡ false) (one : AnswersStep state b x r c) where
  known : Stepped b x r c
  known = stepped state b c x r sound (as_sound state b c x r sound one)

  -- A step that isn't answered by a fault was done. One that is was a flush or a checkpoint.
  pub step_answers : (result : Result (Option LineReply) Trouble) → CarriesOn state b c
      → Lasts b.session c.session
      → IfOk result (λ reply. option_to_list reply ≡ printed.Step r ∷ [])
      → OnOk result (is_fault r ≡ false)
      → IfErr result (λ why. r ≡ reply_of_save (Err why))
      → OnErr result (is_fault r ≡ true)
      → Answers state (asked.Step x) result b c
  step_answers (Ok reply) on lasts is fine fault faulty = record {
    taken = takes_one state r one on fine;
    replied = is ∙ ap (λ y. printed.Step y ∷ []) (known.is_reported fine);
    session = known.session;
    saved = known.saved fine;
    sound = row_sound state b c (x ∷ []) (r ∷ []) sound
        (row_one state b c x r one on) (ap (λ q. q || false) fine);
    lasts = lasts;
  }
  step_answers (Err why) on lasts is fine fault faulty = record {
    saving = known.saving faulty;
    tried = subst (λ q. StepsOn state b (x ∷ []) (q ∷ []) c) fault (row_one state b c x r one on);
    kept = known.kept faulty;
  }

-- A flush or a checkpoint of a book that isn't broken fails by a fault.
save_faulty : {D : Type 0} (state : D → DiskState) (b c : BookView D) (why : Trouble)
    → b.journal.broken ≡ false → Saves state b (Err why) c
    → is_fault (reply_of_save (Err why)) ≡ true
save_faulty state b c why sound saves = elim saves.answer [
  | inl refused ↦ absurd (true_false b.journal.broken refused.was sound)
  | inr (inl spent) ↦ reported_faulty why _ _ spent.reported refl
  | inr (inr failed) ↦ reported_faulty why _ _ failed.reported refl
]

-- So its reply is that of the step.
pub save_answers : {D : Type 0} (state : D → DiskState) (b c : BookView D) (x : Step)
    (saved : Result ℕ Trouble) → b.journal.broken ≡ false
    → AnswersStep state b x (reply_of_save saved) c → Saves state b saved c
    → CarriesOn state b c → Lasts b.session c.session
    → Answers state (asked.Step x) (save_replied saved) b c
save_answers state b c x (Ok n) sound one saves on lasts =
    step_answers state b c x (answered.Acked n) sound one
    (Ok (Some (printed.Step (answered.Acked n)))) on lasts refl refl tt tt
save_answers state b c x (Err why) sound one saves on lasts =
    step_answers state b c x (reply_of_save (Err why)) sound one (Err why) on lasts tt tt refl
    (save_faulty state b c why sound saves)

-- Any other step is answered by no fault.
pub takes_answers : {D : Type 0} (state : D → DiskState) (b c : BookView D) (x : Step) (r : Reply)
    → b.journal.broken ≡ false → AnswersStep state b x r c → CarriesOn state b c
    → Lasts b.session c.session → is_fault (reply_of_step b.session x) ≡ false
    → (AnswersSound state b x r c → Takes b x r c)
    → Answers state (asked.Step x) (Ok (Some (printed.Step r))) b c
takes_answers state b c x r sound one on lasts none takes =
    step_answers state b c x r sound one (Ok (Some (printed.Step r))) on lasts refl
    (ap is_fault (takes (as_sound state b c x r sound one)).reported ∙ none) tt tt

module _ {D : Type 0} (state : D → DiskState) (b c : BookView D) (r : Reply)
    (sound : b.journal.broken ≡ false) (on : CarriesOn state b c)
    (lasts : Lasts b.session c.session) where
  pub command_answers : {call : Command} → AnswersStep state b (step.Command call) r c
      → Answers state (asked.Step (step.Command call)) (Ok (Some (printed.Step r))) b c
  command_answers {call} one =
      takes_answers state b c (step.Command call) r sound one on lasts
      (no_fault answered.Answer _ (λ a. refl)) (λ h. h)

  pub start_answers : AnswersStep state b step.Start r c
      → Answers state (asked.Step step.Start) (Ok (Some (printed.Step r))) b c
  start_answers one =
      takes_answers state b c step.Start r sound one on lasts
      (no_fault answered.Started _ (λ a. refl)) (λ h. h)

  pub finish_answers : {n : ℕ} {outcome : Outcome}
      → AnswersStep state b (step.Finish n outcome) r c
      → Answers state (asked.Step (step.Finish n outcome)) (Ok (Some (printed.Step r))) b c
  finish_answers {n} {outcome} one =
      takes_answers state b c (step.Finish n outcome) r sound one on lasts
      (no_fault answered.Finished _ (λ a. refl)) (λ h. h)
