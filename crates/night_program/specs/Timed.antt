-- A script whose input comes with the machine's time before its lines.
use Rattle.std.specs.Prelude.{◌≡◌, ◌⊎◌, ℕ, Bool, List, Option, Result}
use Rattle.run_disk.specs.Disk.{DiskState}
use Rattle.book_model.specs.Books.{BookView}
use Rattle.console_lines.specs.declared.faults.RunFault.{RunFault}
use Rattle.console_lines.specs.declared.rejections.RejectedLine.{RejectedLine}
use Rattle.run_console.specs.declared.untils.Until.{Until}
use Rattle.run_console.specs.Timed.{timed_known}
use Rattle.night_program.specs.Scripts.{EndsOver, Runs, until_of}
use Rattle.store_words.specs.declared.endings.Done.{Done}
use Rattle.store_words.specs.declared.failures.Failure.{Failure}
use Rattle.store_words.specs.Failures.{AnswersStrict, HasNoFile, Names}
use Rattle.store_files.specs.Files.{FilesView, HoldsAlone, IsSettled, ToOpen}

-- The input was run in this way (Ran), with the time before its lines: the moments that the clock
-- returned, beginning with the clock of the state over which they were run. Nothing is said about
-- how much of the input is left.
abbrev pub RunsTimed : {D : Type 0} → (moments : Option (List ℕ))
    → (Ran : (r0 r1 : Option (List ℕ)) → BookView D → BookView D → Type 0)
    → (r0 : Option (List ℕ)) → BookView D → BookView D → Type 0
RunsTimed moments Ran r0 b c =
    (left : Option (List ℕ)) × Ran (timed_known b.session.state.tree.clock moments r0) left b c

-- The store was opened, and the input was run over it with the time before its lines. Or the store
-- wasn't opened, and nothing was read or printed; the fault says why.
abbrev pub TimedEnds : {D : Type 0} → (moments : Option (List ℕ)) → (D → DiskState) → Until
    → (given : D) → Result (Option RejectedLine) RunFault → (left : D)
    → (r0 r1 w0 w1 : Option (List ℕ)) → Type 0
TimedEnds moments state until given answer left r0 r1 w0 w1 =
    EndsOver state (RunsTimed moments (λ s0 s1. Runs state until answer s0 s1 w0 w1) r0)
    given answer left r0 r1 w0 w1

module _ {F D : Type 0} (state : D → DiskState) (seen : FilesView F D)
    (moments : Option (List ℕ)) where
  -- The file of this name was opened, and the input run so over the store in it, all of it or, in a
  -- strict run, up to the first line that is bad or refused; and it is the disk that the run left.
  pub record ScriptsTimed (store : List ℕ) (strict : Bool) (answer : Result Done Failure)
      (f0 f1 : F) (r0 r1 w0 w1 : Option (List ℕ)) : Type 0 where
    pub given : D
    pub left : D
    pub held : HoldsAlone seen seen.opens store given left f0 f1
    pub settled : IsSettled (state given)
    pub done : Result (Option RejectedLine) RunFault
    pub runs : TimedEnds moments state (until_of strict) given done left r0 r1 w0 w1
    pub answers : AnswersStrict (Names (seen.notes given) store) done answer

  abbrev pub DoesTimed : List ℕ → (strict : Bool) → Result Done Failure → (f0 f1 : F)
      → (r0 r1 w0 w1 : Option (List ℕ)) → Type 0
  DoesTimed store strict answer f0 f1 r0 r1 w0 w1 =
      (HasNoFile (seen.refuses ToOpen f0 store) store answer × (f1 ≡ f0) × (r1 ≡ r0) × (w1 ≡ w0))
      ⊎ ScriptsTimed store strict answer f0 f1 r0 r1 w0 w1
