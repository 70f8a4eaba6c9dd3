-- Why the store stopped a run, by the row of its steps.
use Rattle.std.specs.Prelude.{◌≡◌, ◌≤◌, Bool, true, false, ℕ, List, [], ◌∷◌}
use Rattle.std.specs.Prelude.{IfErr, Option, Result, Ok, Err}
use Rattle.std.specs.List.{list_any}
use Rattle.std.proofs.Common.{inl, inr, arith, sym, ◌∙◌, ap, subst, refl}
use Rattle.run_model.specs.declared.answers.Reply.{Reply}
use Rattle.run_model.specs.declared.commands.Step.{Step}
use Rattle.run_model.specs.declared.commands.Step.TheVariants as step
use Rattle.run_model.specs.declared.faults.Fault.TheVariants.{DiskFailed}
use Rattle.run_model.specs.declared.faults.Trouble.{Trouble}
use Rattle.run_model.specs.declared.faults.Trouble.TheVariants as trouble
use Rattle.run_disk.specs.Disk.{DiskState}
use Rattle.book_model.specs.Books.{BookView, IsUnsaved, Saves}
use Rattle.book_model.specs.Plays.{is_fault}
use Rattle.book_model.specs.Steps.{AnswersSound, AnswersStep, AnswersWhere, StepsOn, Takes}
use Rattle.book_model.specs.Steps.{reply_of_save}
use Rattle.book_model.proofs.Playing.{or_false}
use Rattle.book_model.proofs.Rows.{row_steps}
use Rattle.book_model.proofs.Stepping.{broken_stays}
use Rattle.console_lines.specs.declared.line_requests.LineRequest.{LineRequest}
use Rattle.console_lines.specs.declared.line_requests.LineRequest.TheVariants as asked
use Rattle.console_lines.specs.declared.faults.RunFault.{RunFault}
use Rattle.console_lines.specs.declared.faults.RunFault.TheVariants as fault
use Rattle.console_lines.specs.LineRequests.{request_of}
use Rattle.console_lines.specs.Script.{steps_of}
use Rattle.run_console.specs.declared.untils.Until.{Until}
use Rattle.run_console.specs.RunProgress.{IsRunStopped, LineStops, RunStops}
use Rattle.run_console.specs.TakenSteps.{Tries, TriesLine, next_steps, steps_asked}
use Rattle.run_console.specs.SavingLines.{IsSaving}
use Rattle.run_console.specs.StoreTroubles.{Accounts, DeviceFails, Reports}

pub true_false : (b : Bool) → b ≡ true → b ≡ false → ⊥
true_false b is not = cc

-- The answer that was told as a trouble is that trouble.
why_reported : (why : Trouble) (r : Result ℕ Trouble) → reply_of_save (Err why) ≡ reply_of_save r
    → r ≡ Err why
why_reported (trouble.Refused x) (Ok n) p = cc
why_reported (trouble.Faulty x) (Ok n) p = cc
why_reported (trouble.Refused x) (Err (trouble.Refused y)) p = cc
why_reported (trouble.Refused x) (Err (trouble.Faulty y)) p = cc
why_reported (trouble.Faulty x) (Err (trouble.Refused y)) p = cc
why_reported (trouble.Faulty x) (Err (trouble.Faulty y)) p = cc

-- A device's failure is told as a fault.
failed_fault : (why : Trouble) (r : Reply) → why ≡ trouble.Faulty DiskFailed
    → r ≡ reply_of_save (Err why) → is_fault r ≡ true
failed_fault (trouble.Faulty x) r is reported = ap is_fault reported
failed_fault (trouble.Refused x) r is reported = absurd (cc)

module _ {D : Type 0} (state : D → DiskState) where
  -- ---- one step of a book that isn't broken

  -- Where a call breaks the book, a device failed in it, and a fault is told.
  record Breaks (old : BookView D) (r : Reply) (new : BookView D) : Type 0 where
    pub cause : DeviceFails state old new
    pub reported : is_fault r ≡ true

  same_sound : (old new : BookView D) → old.journal.broken ≡ false → new ≡ old
      → new.journal.broken ≡ false
  same_sound old new sound same = ap (λ (h : BookView D). h.journal.broken) same ∙ sound

  took_sound : (old new : BookView D) (x : Step) (r : Reply) → old.journal.broken ≡ false
      → Takes old x r new → new.journal.broken ≡ true → Breaks old r new
  took_sound old new x r sound takes broken =
      absurd (true_false new.journal.broken broken
      (ap (λ (h : BookView D). h.journal.broken) takes.taken ∙ sound))

  saved_sound : (old new : BookView D) (result : Result ℕ Trouble) (r : Reply)
      → old.journal.broken ≡ false → r ≡ reply_of_save result → Saves state old result new
      → new.journal.broken ≡ true → Breaks old r new
  saved_sound old new (Ok n) r sound reported saves broken =
      absurd (true_false new.journal.broken broken saves.answer.sound)
  saved_sound old new (Err why) r sound reported saves broken =
      elim saves.answer [
        | inl refused ↦ absurd (true_false old.journal.broken refused.was sound)
        | inr (inl spent) ↦
            absurd (true_false new.journal.broken broken (same_sound old new sound spent.same))
        | inr (inr failed) ↦
            record { cause = failed.cause; reported = failed_fault why r failed.reported reported }
      ]

  answered : (old new : BookView D) (x : Step) (r : Reply) → old.journal.broken ≡ false
      → AnswersSound state old x r new → new.journal.broken ≡ true → Breaks old r new
  answered old new (step.Command call) r sound takes =
      took_sound old new (step.Command call) r sound takes
  answered old new step.Start r sound takes = took_sound old new step.Start r sound takes
  answered old new (step.Finish n outcome) r sound takes =
      took_sound old new (step.Finish n outcome) r sound takes
  answered old new step.Flush r sound reports =
      saved_sound old new reports.result r sound reports.reported reports.saves.saves
  answered old new step.Checkpoint r sound reports =
      saved_sound old new reports.result r sound reports.reported reports.saves.saves

  pub as_sound : (old new : BookView D) (x : Step) (r : Reply) → old.journal.broken ≡ false
      → AnswersStep state old x r new → AnswersSound state old x r new
  as_sound old new x r sound one = subst (λ b. AnswersWhere state b old x r new) sound one

  step_breaks : (old new : BookView D) (x : Step) (r : Reply) → old.journal.broken ≡ false
      → AnswersStep state old x r new → new.journal.broken ≡ true → Breaks old r new
  step_breaks old new x r sound one = answered old new x r sound (as_sound old new x r sound one)

  -- ---- a row of steps

  fails_later : (b c d : BookView D)
      → (state b.journal.disk).failures ≤ (state c.journal.disk).failures
      → DeviceFails state c d → DeviceFails state b d
  fails_later b c d few (inl more) = inl (omega (arith, few, more))
  fails_later b c d few (inr spent) = inr spent

  row_failures : (old new : BookView D) (steps : List Step) (answers : List Reply)
      → StepsOn state old steps answers new
      → (state old.journal.disk).failures ≤ (state new.journal.disk).failures
  row_failures old new [] [] same =
      let e = ap (λ (h : BookView D). (state h.journal.disk).failures) same in
      omega (arith, e)
  row_failures old new [] (r ∷ answers) row = absurd row
  row_failures old new (x ∷ steps) [] row = absurd row
  row_failures old new (x ∷ steps) (r ∷ answers) (next, one, on, more) =
      let here = on.passed.failures_later in
      let rest = row_failures next new steps answers more in
      omega (arith, here, rest)

  -- A row that isn't answered by a fault leaves the book unbroken.
  pub row_sound : (old new : BookView D) (steps : List Step) (answers : List Reply)
      → old.journal.broken ≡ false → StepsOn state old steps answers new
      → list_any is_fault answers ≡ false → new.journal.broken ≡ false
  row_sound old new [] [] sound same fine = same_sound old new sound same
  row_sound old new [] (r ∷ answers) sound row fine = absurd row
  row_sound old new (x ∷ steps) [] sound row fine = absurd row
  row_sound old new (x ∷ steps) (r ∷ answers) sound (next, one, on, more) fine =
      let parts = or_false (is_fault r) (list_any is_fault answers) fine in
      row_sound next new steps answers (here next.journal.broken refl parts.0) more parts.1
    where
      here : (b : Bool) → next.journal.broken ≡ b → is_fault r ≡ false
          → next.journal.broken ≡ false
      here false is none = is
      here true is none =
          absurd (true_false (is_fault r) (step_breaks old next x r sound one is).reported none)

  -- One that leaves it broken has its cause.
  row_breaks : (old new : BookView D) (steps : List Step) (answers : List Reply)
      → old.journal.broken ≡ false → StepsOn state old steps answers new
      → new.journal.broken ≡ true → DeviceFails state old new
  row_breaks old new [] [] sound same broken =
      absurd (true_false new.journal.broken broken (same_sound old new sound same))
  row_breaks old new [] (r ∷ answers) sound row broken = absurd row
  row_breaks old new (x ∷ steps) [] sound row broken = absurd row
  row_breaks old new (x ∷ steps) (r ∷ answers) sound (next, one, on, more) broken =
      by next.journal.broken refl (λ is. row_breaks next new steps answers is more broken)
    where
      by : (b : Bool) → next.journal.broken ≡ b
          → (next.journal.broken ≡ false → DeviceFails state next new)
          → DeviceFails state old new
      by true is later =
          subst (λ (h : BookView D). DeviceFails state old h)
          (sym (broken_stays state next new steps answers is
          (row_steps state next new steps answers more)))
          (step_breaks old next x r sound one is).cause
      by false is later = fails_later old next new on.passed.failures_later (later is)

  -- ---- the step that was next

  -- What a call told of a book that wasn't broken.
  reported_unsaved : (b d : BookView D) (why : Trouble)
      → b.journal.broken ≡ false
      → IsUnsaved state b why d
      → Reports state b why d
  reported_unsaved b d why sound (inl refused) = absurd (grind (arith, sound, refused.was))
  reported_unsaved b d why sound (inr (inl spent)) = inl (record {
    reported = spent.reported;
    sound = ap (λ (h : BookView D). h.journal.broken) spent.same ∙ spent.was;
    last = ap (λ (h : BookView D). h.journal.generation) spent.same ∙ spent.last;
  })
  reported_unsaved b d why sound (inr (inr failed)) = inr (record {
    reported = failed.reported;
    broken = failed.broken;
    cause = failed.cause;
  })

  reported_saving : (b d : BookView D) (r : Result ℕ Trouble)
      → b.journal.broken ≡ false
      → Saves state b r d
      → IfErr r (λ why. Reports state b why d)
  reported_saving b d (Ok n) sound saves = tt
  reported_saving b d (Err why) sound saves = reported_unsaved b d why sound saves.answer

  save_reports : (old new : BookView D) (result : Result ℕ Trouble) (why : Trouble)
      → old.journal.broken ≡ false → reply_of_save (Err why) ≡ reply_of_save result
      → Saves state old result new → Reports state old why new
  save_reports old new result why sound same saves =
      reported_saving old new (Err why) sound
      (subst (λ r. Saves state old r new) (why_reported why result same) saves)

  flush_reports : (old new : BookView D) (why : Trouble) → old.journal.broken ≡ false
      → StepsOn state old (step.Flush ∷ []) (reply_of_save (Err why) ∷ []) new
      → Reports state old why new
  flush_reports old new why sound (next, one, on, same) =
      let reports = as_sound old next step.Flush (reply_of_save (Err why)) sound one in
      subst (λ (h : BookView D). Reports state old why h) (sym same)
      (save_reports old next reports.result why sound reports.reported reports.saves.saves)

  checkpoint_reports : (old new : BookView D) (why : Trouble) → old.journal.broken ≡ false
      → StepsOn state old (step.Checkpoint ∷ []) (reply_of_save (Err why) ∷ []) new
      → Reports state old why new
  checkpoint_reports old new why sound (next, one, on, same) =
      let reports = as_sound old next step.Checkpoint (reply_of_save (Err why)) sound one in
      subst (λ (h : BookView D). Reports state old why h) (sym same)
      (save_reports old next reports.result why sound reports.reported reports.saves.saves)

  saving_reports : (a : LineRequest) (old new : BookView D) (why : Trouble) → IsSaving a
      → old.journal.broken ≡ false
      → StepsOn state old (steps_asked a) (reply_of_save (Err why) ∷ []) new
      → Reports state old why new
  saving_reports (asked.Step step.Flush) old new why saving sound row =
      flush_reports old new why sound row
  saving_reports (asked.Step step.Checkpoint) old new why saving sound row =
      checkpoint_reports old new why sound row
  saving_reports _ old new why saving sound row = absurd saving

  next_reports : (old new : BookView D) (why : Trouble) (left : List (List ℕ))
      → IsRunStopped (fault.Store why) left → old.journal.broken ≡ false
      → StepsOn state old (next_steps left) (reply_of_save (Err why) ∷ []) new
      → Reports state old why new
  next_reports old new why [] stopped sound row = flush_reports old new why sound row
  next_reports old new why (line ∷ left) stopped sound row =
      saving_reports (request_of line) old new why stopped sound row

  reports_later : (b c d : BookView D) (why : Trouble)
      → (state b.journal.disk).failures ≤ (state c.journal.disk).failures
      → Reports state c why d → Reports state b why d
  reports_later b c d why few (inl spent) = inl spent
  reports_later b c d why few (inr failed) = inr (record {
    reported = failed.reported;
    broken = failed.broken;
    cause = fails_later b c d few failed.cause;
  })

  -- What became of it accounts for the fault, from the start of the row on.
  row_accounts : (old middle new : BookView D) (why : RunFault) (left : List (List ℕ))
      → (state old.journal.disk).failures ≤ (state middle.journal.disk).failures
      → middle.journal.broken ≡ false → IsRunStopped why left
      → Tries state middle why (next_steps left) new → Accounts state old why new
  row_accounts old middle new (fault.Store why) left few sound stopped row =
      reports_later old middle new why few (next_reports middle new why left stopped sound row)
  row_accounts old middle new fault.Output left few sound stopped (inl same) =
      λ broken. absurd (true_false new.journal.broken broken (same_sound middle new sound same))
  row_accounts old middle new fault.Output left few sound stopped (inr row) =
      λ broken. fails_later old middle new few
      (row_breaks middle new (next_steps left) row.0 sound row.1 broken)
  row_accounts old middle new fault.Input left few sound stopped same =
      same_sound middle new sound same
  row_accounts old middle new fault.InputTooLong left few sound stopped same =
      same_sound middle new sound same
  row_accounts old middle new fault.Memory left few sound stopped same =
      same_sound middle new sound same

  tried_accounts : {old new : BookView D} {why : RunFault} {ran : List (List ℕ)}
      (left : List (List ℕ))
      → old.journal.broken ≡ false → IsRunStopped why left
      → TriesLine state old why ran (next_steps left) new → Accounts state old why new
  tried_accounts {old} {new} {why} {ran} left sound stopped p =
      row_accounts old p.middle new why left
      (row_failures old p.middle (steps_of ran) p.taken.answers p.taken.row)
      (row_sound old p.middle (steps_of ran) p.taken.answers sound p.taken.row p.taken.fine)
      stopped p.tried

  -- ---- a run, and a line

  pub run_accounts : (until : Until) (why : RunFault) (b c : BookView D)
      (r0 r1 w0 w1 : Option (List ℕ))
      → b.journal.broken ≡ false → RunStops state until why b c r0 r1 w0 w1
      → Accounts state b why c
  run_accounts until why b c r0 r1 w0 w1 sound p = tried_accounts p.left sound p.stopped p.tried

  pub line_accounts : (why : RunFault) (line : List ℕ) (b c : BookView D)
      (w0 w1 : Option (List ℕ)) → b.journal.broken ≡ false
      → LineStops state why line b c w0 w1 → Accounts state b why c
  line_accounts (fault.Store why) line b c w0 w1 sound p =
      saving_reports (request_of line) b c why p.0 sound p.3
  line_accounts fault.Output line b c w0 w1 sound p =
      let taken = p.2 in
      λ broken. absurd (true_false c.journal.broken broken
      (row_sound b c (steps_of (line ∷ [])) taken.answers sound taken.row
      taken.fine))
  line_accounts fault.Memory line b c w0 w1 sound p =
      same_sound b c sound p.3
  line_accounts fault.Input line b c w0 w1 sound p = absurd p
  line_accounts fault.InputTooLong line b c w0 w1 sound p = absurd p
