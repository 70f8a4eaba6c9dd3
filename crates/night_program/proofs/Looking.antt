-- A crew that looks first: what its look found, by whether it was to look.
use Rattle.std.specs.Prelude.{◌≡◌, Bool, true, false, Option, None, Result, Ok, Err}
use Rattle.std.proofs.Common.{subst, sym}
use Rattle.run_model.specs.declared.faults.Fault.{Fault}
use Rattle.run_disk.specs.Disk.{DiskState}
use Rattle.console_lines.specs.declared.faults.RunFault.{RunFault}
use Rattle.store_words.specs.declared.endings.Done.{Done}
use Rattle.store_words.specs.declared.endings.UnknownJob.{UnknownJob}
use Rattle.store_words.specs.declared.failures.Failure.{Failure}
use Rattle.store_words.proofs.NotedLemmas.{Weaker, fails_by}
use Rattle.night_program.specs.Known.{FindsUnknown}
use Rattle.night_program.specs.Crews.{AnswersCrew, IsLooked}

-- A failure that is so is also like that.
pub answers_crew : {P Q : Failure → Type 0} (done : Result Bool RunFault)
    (answer : Result Done Failure) → Weaker P Q → AnswersCrew P done answer
    → AnswersCrew Q done answer
answers_crew (Ok true) answer weaker is = is
answers_crew (Ok false) answer weaker is = is
answers_crew (Err why) answer weaker fails = fails_by why answer weaker fails

module _ {D : Type 0} (state : D → DiskState) (given : D) where
  -- What was found is what the look answered.
  pub found_is : (r : Result (Option UnknownJob) Fault) (found x : Option UnknownJob) (read : D)
      → FindsUnknown state given r read → r ≡ Ok found → found ≡ x
      → FindsUnknown state given (Ok x) read
  found_is r found x read finds is same =
      subst (λ y. FindsUnknown state given (Ok y) read) same
      (subst (λ y. FindsUnknown state given y read) is finds)

  -- It looked, and found nothing.
  pub looked_first : (known : Bool) (begun read : D) → known ≡ true
      → FindsUnknown state given (Ok None) read → begun ≡ read → IsLooked state known given begun
  looked_first true begun read h finds is =
      subst (λ d. FindsUnknown state given (Ok None) d) (sym is) finds
  looked_first false begun read h finds is = absurd cc

  -- It didn't look.
  pub looked_not : (known : Bool) (begun : D) → known ≡ false → begun ≡ given
      → IsLooked state known given begun
  looked_not true begun h is = absurd cc
  looked_not false begun h is = is
