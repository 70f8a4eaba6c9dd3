-- What a script does to a store, by what its disk was and what is left of it.
use Rattle.std.specs.Prelude.{◌≡◌, ◌⊎◌, ℕ, List, Option, Result, Ok, Err, Bool, true, false}
use Rattle.run_model.specs.declared.faults.Fault.{Fault}
use Rattle.run_model.specs.Session.{begun_at}
use Rattle.run_disk.specs.Disk.{DiskState}
use Rattle.book_model.specs.Books.{CarriesOn, BookView}
use Rattle.book_model.specs.Openings.{Opens}
use Rattle.console_lines.specs.declared.faults.RunFault.{RunFault}
use Rattle.console_lines.specs.declared.rejections.RejectedLine.{RejectedLine}
use Rattle.console_lines.specs.Faults.{stopped}
use Rattle.run_console.specs.RunProgress.{BeginsScript, Lasts, RunEnds, RunStops}
use Rattle.run_console.specs.declared.untils.Until.{Until}
use Rattle.run_console.specs.declared.untils.Until.TheVariants.{End, FirstRejection}
use Rattle.store_files.specs.Files.{FilesView, HoldsAlone, IsSettled, ToOpen}
use Rattle.store_words.specs.declared.endings.Done.{Done}
use Rattle.store_words.specs.declared.failures.Failure.{Failure}
use Rattle.store_words.specs.Failures.{AnswersStrict, HasNoFile, Names}

-- A strict run ends at the first line that is bad or refused, any other at the end of its input.
abbrev pub until_of : (strict : Bool) → Until
until_of true = FirstRejection
until_of false = End

-- The lines of the input were run until the run had to end, and then all events are durable. Or a
-- fault stopped the run. Then, if the input should have been run as a whole, what was written is a
-- prefix of its script.
abbrev pub Runs : {D : Type 0} → (D → DiskState) → Until → Result (Option RejectedLine) RunFault
    → (r0 r1 w0 w1 : Option (List ℕ)) → BookView D → BookView D → Type 0
Runs state until (Ok stray) r0 r1 w0 w1 b c = RunEnds state until stray b c r0 r1 w0 w1
Runs state until (Err why) r0 r1 w0 w1 b c =
    RunStops state until why b c r0 r1 w0 w1
    × (until ≡ End → BeginsScript why b.session r0 r1 w0 w1)

-- A book was opened over the disk, and the input was run over it in this way. The disk is left as
-- the book held it.
pub record RunsOver {D : Type 0} (state : D → DiskState) (Ran : BookView D → BookView D → Type 0)
    (given left : D) : Type 0 where
  pub before : BookView D
  pub after : BookView D
  pub opened : Opens state given (Ok before)
  pub begun : before.session ≡ begun_at before.session.start
  pub runs : Ran before after
  pub lasts : Lasts before.session after.session
  pub carries_on : CarriesOn state before after
  pub disk : left ≡ after.journal.disk

-- The store was opened, and the input was run over it in this way. Or the store wasn't opened, and
-- nothing was read or printed; the fault says why.
abbrev pub EndsOver : {T D : Type 0} → (D → DiskState) → (BookView D → BookView D → Type 0)
    → (given : D) → Result T RunFault → (left : D) → (r0 r1 w0 w1 : Option (List ℕ)) → Type 0
EndsOver state Ran given answer left r0 r1 w0 w1 =
    RunsOver state Ran given left
    ⊎ ((why : Fault) × (answer ≡ Err (stopped why)) × Opens state given (Err (why, left))
    × (r1 ≡ r0) × (w1 ≡ w0))

abbrev pub ScriptEnds : {D : Type 0} → (D → DiskState) → Until → (given : D)
    → Result (Option RejectedLine) RunFault → (left : D) → (r0 r1 w0 w1 : Option (List ℕ)) → Type 0
ScriptEnds state until given answer left r0 r1 w0 w1 =
    EndsOver state (Runs state until answer r0 r1 w0 w1) given answer left r0 r1 w0 w1

module _ {F D : Type 0} (state : D → DiskState) (seen : FilesView F D) where
  -- The file of this name was opened, and the input run over the store in it, all of it or, in a
  -- strict run, up to the first line that is bad or refused; and it is the disk that the run left.
  pub record Scripts (store : List ℕ) (strict : Bool) (answer : Result Done Failure)
      (f0 f1 : F) (r0 r1 w0 w1 : Option (List ℕ)) : Type 0 where
    pub given : D
    pub left : D
    pub held : HoldsAlone seen seen.opens store given left f0 f1
    pub settled : IsSettled (state given)
    pub done : Result (Option RejectedLine) RunFault
    pub runs : ScriptEnds state (until_of strict) given done left r0 r1 w0 w1
    pub answers : AnswersStrict (Names (seen.notes given) store) done answer

  abbrev pub DoesScript : List ℕ → (strict : Bool) → Result Done Failure → (f0 f1 : F)
      → (r0 r1 w0 w1 : Option (List ℕ)) → Type 0
  DoesScript store strict answer f0 f1 r0 r1 w0 w1 =
      (HasNoFile (seen.refuses ToOpen f0 store) store answer × (f1 ≡ f0) × (r1 ≡ r0) × (w1 ≡ w0))
      ⊎ Scripts store strict answer f0 f1 r0 r1 w0 w1
