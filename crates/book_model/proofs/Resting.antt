-- The disk of a book that isn't broken stays at rest.
use Rattle.run_model.proofs.Common.{◌≡◌, inl, inr, ◌∷◌, ℕ, Bool, true, false, List, [], Ok, Err}
use Rattle.run_model.proofs.Common.{Result, refl, sym, ap, ◌∙◌, subst}
use Rattle.run_disk.specs.Disk.{DiskState, IsAtRest}
use Rattle.run_journal.specs.Journals.{JournalView}
use Rattle.run_model.specs.declared.answers.Reply.{Reply}
use Rattle.run_model.specs.declared.commands.Step.{Step}
use Rattle.run_model.specs.declared.commands.Step.TheVariants as step
use Rattle.run_model.specs.declared.faults.Trouble.{Trouble}
use Rattle.book_model.specs.Books.{BookView, IsSafe, Saves}
use Rattle.book_model.specs.Steps.{AnswersSound, AnswersStep, AnswersWhere, Refuses, Steps, Takes}
use Rattle.book_model.proofs.Stepping.{broken_stays, true_false}

-- The disk is at rest, and the book keeps its promises.
pub record IsResting {D : Type 0} (state : D → DiskState) (h : BookView D) : Type 0 where
  pub safe : IsSafe state h
  pub rest : IsAtRest (state h.journal.disk)

module _ {D : Type 0} (state : D → DiskState) where
  rests_same : (old new : BookView D) → new.journal ≡ old.journal → new.origin ≡ old.origin
      → IsResting state old → IsResting state new
  rests_same old new journal origin is = record {
    safe = record {
      honest = subst (λ (j : JournalView _). (state j.disk).honest) (sym journal) is.safe.honest;
      rest = subst (λ d. IsAtRest (state d)) (sym origin) is.safe.rest;
    };
    rest = subst (λ (j : JournalView _). IsAtRest (state j.disk)) (sym journal) is.rest;
  }

  rests_save : (old new : BookView D) (result : Result ℕ Trouble) → Saves state old result new
      → new.journal.broken ≡ false → IsResting state old → IsResting state new
  rests_save old new (Ok n) saves sound is = record {
    safe = record {
      honest = saves.passed.honest is.safe.honest;
      rest = subst (λ d. IsAtRest (state d)) (sym saves.origin) is.safe.rest;
    };
    rest = saves.answer.rest is.safe;
  }
  rests_save old new (Err why) saves sound is =
      elim saves.answer [
        | inl refused ↦ rests_same old new (ap (λ (h : BookView D). h.journal) refused.same)
            (ap (λ (h : BookView D). h.origin) refused.same) is
        | inr (inl spent) ↦ rests_same old new (ap (λ (h : BookView D). h.journal) spent.same)
            (ap (λ (h : BookView D). h.origin) spent.same) is
        | inr (inr failed) ↦ absurd (true_false new.journal.broken failed.broken sound)
      ]

  rests_taken : (old : BookView D) (x : Step) (r : Reply) (new : BookView D) → Takes old x r new
      → IsResting state old → IsResting state new
  rests_taken old x r new takes is =
      rests_same old new (ap (λ (h : BookView D). h.journal) takes.taken)
      (ap (λ (h : BookView D). h.origin) takes.taken) is

  rests_sound : (old : BookView D) (x : Step) (r : Reply) (new : BookView D)
      → new.journal.broken ≡ false → AnswersSound state old x r new → IsResting state old
      → IsResting state new
  rests_sound old (step.Command call) r new sound takes is =
      rests_taken old (step.Command call) r new takes is
  rests_sound old step.Start r new sound takes is = rests_taken old step.Start r new takes is
  rests_sound old (step.Finish n outcome) r new sound takes is =
      rests_taken old (step.Finish n outcome) r new takes is
  rests_sound old step.Flush r new sound reports is =
      rests_save old new reports.result reports.saves.saves sound is
  rests_sound old step.Checkpoint r new sound reports is =
      rests_save old new reports.result reports.saves.saves sound is

  -- A step after which the book isn't broken.
  rests_step : (old : BookView D) (x : Step) (r : Reply) (new : BookView D)
      → new.journal.broken ≡ false → AnswersStep state old x r new → IsResting state old
      → IsResting state new
  rests_step old x r new sound one is = by old.journal.broken refl
    where
      by : (k : Bool) → old.journal.broken ≡ k → IsResting state new
      by true broken =
          let refused : Refuses old r new =
          subst (λ b. AnswersWhere state b old x r new) broken one in
          rests_same old new (ap (λ (h : BookView D). h.journal) refused.same)
          (ap (λ (h : BookView D). h.origin) refused.same) is
      by false fine =
          rests_sound old x r new sound (subst (λ b. AnswersWhere state b old x r new) fine one)
          is

  -- Where it isn't broken at the end, it wasn't before.
  fine_before : (old new : BookView D) (steps : List Step) (answers : List Reply)
      → new.journal.broken ≡ false → Steps state old steps answers new
      → old.journal.broken ≡ false
  fine_before old new steps answers sound played = by old.journal.broken refl
    where
      by : (k : Bool) → old.journal.broken ≡ k → old.journal.broken ≡ false
      by true broken =
          let stays = broken_stays state old new steps answers broken played in
          absurd (true_false new.journal.broken
          (ap (λ (h : BookView D). h.journal.broken) stays ∙ broken) sound)
      by false fine = fine

  pub rests : (old new : BookView D) (steps : List Step) (answers : List Reply)
      → new.journal.broken ≡ false → Steps state old steps answers new → IsResting state old
      → IsResting state new
  rests old new [] [] sound p is = subst (λ (h : BookView D). IsResting state h) (sym p) is
  rests old new [] (r ∷ answers) sound p is = absurd p
  rests old new (x ∷ steps) [] sound p is = absurd p
  rests old new (x ∷ steps) (r ∷ answers) sound (next, one, rest) is =
      rests next new steps answers sound rest
      (rests_step old x r next (fine_before next new steps answers sound rest) one is)
