-- That a run of the program finds what the one before it left in a file.
use Rattle.std.specs.Prelude.{◌⊎◌, ◌≤◌, ℕ, List}
use Rattle.run_disk.specs.Disk.{DiskState}
use Rattle.store_files.specs.Files.{FilesView, HoldsAlone}
use Rattle.run_model.specs.declared.answers.Reply.{Reply}
use Rattle.run_model.specs.declared.commands.Step.{Step}
use Rattle.book_model.specs.Steps.{StepsOn}
use Rattle.night_program.specs.Lasting.{Reading, RunLeaves, Scripting}
use Rattle.night_program.specs.CutScripts.{RunsLines}
use Rattle.night_program.specs.Scripts.{RunsOver}
use Rattle.store_words.specs.Lasting.{FindsLeft, IsReadAlone}

-- The file of this name was opened, for writing or to be read, and given back; and then it was
-- opened again.
pub record IsOpenedAgain {F D : Type 0} (seen : FilesView F D) (name : List ℕ)
    (given left next : D) : Type 0 where
  pub first : F
  pub second : F
  pub third : F
  pub held : HoldsAlone seen seen.opens name given left first second
      ⊎ HoldsAlone seen seen.shows name given left first second
  pub again : seen.opens second name next third

-- These files keep what is left in them: an opening finds what a crash may have left of the disk
-- that was given back, since a moment of it.
abbrev pub KeepsWhatIsLeft : {F D : Type 0} → (D → DiskState) → FilesView F D → Type 0
KeepsWhatIsLeft {D = D} state seen =
    (name : List ℕ) (from given left next : D) → IsOpenedAgain seen name given left next
    → (state from).clock ≤ (state left).clock → FindsLeft state from left next

-- Where the disk was only read in between, that is a run, as the law on many of them takes it.
abbrev pub ReadingsAreRuns : {F D : Type 0} → (D → DiskState) → FilesView F D → Type 0
ReadingsAreRuns {D = D} state seen =
    (name : List ℕ) (given read next : D) → IsOpenedAgain seen name given read next
    → IsReadAlone (state given) (state read) → RunLeaves state given Reading next

-- So it is where lines were run over the store in it, up to their end.
abbrev pub ScriptsAreRuns : {F D : Type 0} → (D → DiskState) → FilesView F D → Type 0
ScriptsAreRuns {D = D} state seen =
    (name : List ℕ) (given left next : D) (steps : List Step) (reported : List Reply)
    → IsOpenedAgain seen name given left next
    → (over : RunsOver state (RunsLines state) given left)
    → StepsOn state over.before steps reported over.after
    → RunLeaves state given (Scripting over.after.session.history reported) next
