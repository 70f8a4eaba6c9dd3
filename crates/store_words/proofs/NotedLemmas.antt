-- From the first error that was noted of a file to the one that its disk notes.
use Rattle.std.specs.Prelude.{List, Option, None, Some, Result, Ok, Err, ℕ}
use Rattle.std.proofs.Common.{inl, inr}
use Rattle.run_model.specs.declared.layouts.Layout.{Layout}
use Rattle.book_model.specs.declared.migrations.MigrateFault.{MigrateFault}
use Rattle.book_model.specs.declared.migrations.MigrateFault.TheVariants as of_two
use Rattle.console_lines.specs.declared.faults.RunFault.{RunFault}
use Rattle.console_lines.specs.declared.faults.RunFault.TheVariants as fault
use Rattle.console_lines.specs.declared.rejections.RejectedLine.{RejectedLine}
use Rattle.store_files.specs.declared.file_errors.FileError.{FileError}
use Rattle.store_files.specs.Files.{AreNoted}
use Rattle.store_words.specs.declared.endings.Done.{Done}
use Rattle.store_words.specs.declared.failures.Failure.{Failure}
use Rattle.store_words.specs.declared.failures.FileFailure.{FileFailure}
use Rattle.store_words.specs.declared.file_problems.FileProblem.{FileProblem}
use Rattle.store_words.specs.Failures.{AnswersOver, AnswersStrict, FailsBy, FailsOf, Names, NamesBy}
use Rattle.store_words.specs.Failures.{NamesOf, NamesSource, source_problem}
use Rattle.store_words.specs.Stores.{AnswersMade}

pub named_by : {P Q : Option FileError → Type 0} (why : RunFault) (held : Option FileProblem)
    (name : List ℕ) (file : Option FileFailure) → AreNoted P Q → NamesBy P why held name file
    → NamesBy Q why held name file
named_by (fault.Store why) held name file noted (named, (first, given, is)) =
    (named, (first, noted first given, is))
named_by fault.Memory held name file noted none = none
named_by fault.Input held name file noted none = none
named_by fault.InputTooLong held name file noted none = none
named_by fault.Output held name file noted none = none

pub named : {P Q : Option FileError → Type 0} (name : List ℕ) → AreNoted P Q
    → (failure : Failure) → Names P name failure → Names Q name failure
named name noted failure names = named_by failure.fault _ name failure.file noted names

pub named_source : {P Q : Option FileError → Type 0} (from to : Option Layout) (name : List ℕ)
    (failure : Failure) → AreNoted P Q → NamesSource P from to name failure
    → NamesSource Q from to name failure
named_source from to name failure noted names =
    named_by failure.fault (source_problem from to failure.fault) name failure.file noted names

-- What holds of each failure for which the other one holds.
abbrev pub Weaker : (P Q : Failure → Type 0) → Type 0
Weaker P Q = (failure : Failure) → P failure → Q failure

pub fails_by : {P Q : Failure → Type 0} (why : RunFault) (answer : Result Done Failure)
    → Weaker P Q → FailsBy P why answer → FailsBy Q why answer
fails_by why answer weaker (failure, is, reported, of) = (failure, is, reported, weaker failure of)

pub answers_over : {T : Type 0} {P Q : Failure → Type 0} (done : Result T RunFault)
    (answer : Result Done Failure) → Weaker P Q → AnswersOver P done answer
    → AnswersOver Q done answer
answers_over (Ok done) answer weaker is = is
answers_over (Err why) answer weaker fails = fails_by why answer weaker fails

pub answers_strict : {P Q : Failure → Type 0} (done : Result (Option RejectedLine) RunFault)
    (answer : Result Done Failure) → Weaker P Q → AnswersStrict P done answer
    → AnswersStrict Q done answer
answers_strict (Ok None) answer weaker is = is
answers_strict (Ok (Some line)) answer weaker is = is
answers_strict (Err why) answer weaker fails = fails_by why answer weaker fails

pub names_of : {P P' Q Q' : Failure → Type 0} (why : MigrateFault) (failure : Failure)
    → Weaker P P' → Weaker Q Q' → NamesOf P Q why failure → NamesOf P' Q' why failure
names_of of_two.Memory failure old new none = none
names_of (of_two.Old why) failure old new names = old failure names
names_of (of_two.New why) failure old new names = new failure names

pub answers_made : {K : Type 0} {P P' Q Q' : Failure → Type 0} (line : K → List ℕ)
    (done : Result K MigrateFault) (answer : Result Done Failure) (w0 w1 : Option (List ℕ))
    → Weaker P P' → Weaker Q Q' → AnswersMade line P Q done answer w0 w1
    → AnswersMade line P' Q' done answer w0 w1
answers_made line (Ok kept) answer w0 w1 old new prints = prints
answers_made line (Err why) answer w0 w1 old new ((failure, is, reported, of), quiet) =
    ((failure, is, reported, names_of why failure old new of), quiet)
