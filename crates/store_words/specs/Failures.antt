-- What ended a subcommand before it was done, and which file is to blame for what.
use Rattle.std.specs.Prelude.{◌≡◌, ℕ, List, Option, Some, None, Result, Ok, Err, IfSome}
use Rattle.std.specs.Prelude.{codes, option_map}
use Rattle.run_model.specs.declared.faults.Fault.TheVariants as of_store
use Rattle.run_model.specs.declared.faults.Fault.TheVariants.{DiskFailed}
use Rattle.run_model.specs.declared.faults.Trouble.TheVariants.{Faulty}
use Rattle.run_model.specs.declared.layouts.Layout.{Layout}
use Rattle.book_model.specs.declared.migrations.MigrateFault.{MigrateFault}
use Rattle.book_model.specs.declared.migrations.MigrateFault.TheVariants as of_two
use Rattle.console_lines.specs.declared.faults.RunFault.{RunFault}
use Rattle.console_lines.specs.declared.faults.RunFault.TheVariants.{Input, Memory, Output, Store}
use Rattle.console_lines.specs.declared.rejections.RejectedLine.{RejectedLine}
use Rattle.console_lines.specs.Faults.{stopped}
use Rattle.store_words.specs.declared.endings.Done.{Done}
use Rattle.store_words.specs.declared.endings.Done.TheVariants.{Rejection, Well}
use Rattle.store_words.specs.declared.failures.Failure.{Failure}
use Rattle.store_words.specs.declared.failures.FileFailure.{FileFailure}
use Rattle.store_words.specs.declared.failures.FileName.{FileName}
use Rattle.store_words.specs.declared.failures.FileName.TheVariants.{Beside, Own}
use Rattle.store_words.specs.declared.failures.FileName.TheVariants.{StandardInput}
use Rattle.store_words.specs.declared.failures.FileName.TheVariants.{StandardOutput}
use Rattle.store_words.specs.declared.file_problems.FileProblem.{FileProblem}
use Rattle.store_words.specs.declared.file_problems.FileProblem.TheVariants as of_file
use Rattle.store_files.specs.declared.file_errors.FileError.{FileError}
use Rattle.store_files.specs.declared.file_errors.FileError.TheVariants.{InUse, NoMemory}
use Rattle.store_files.specs.Files.{beside}
use Rattle.store_files.specs.FileErrors.{error_text}

-- The name of a file that is printed: one that the arguments have, or that of the file beside it;
-- or the name of a stream.
abbrev pub name_text : FileName → List ℕ
name_text (Own name) = name.now
name_text (Beside name) = beside name.now
name_text StandardInput = codes "standard input"
name_text StandardOutput = codes "standard output"

-- What is printed to be wrong with a file: the error of a call, or its content.
abbrev pub problem_text : FileProblem → List ℕ
problem_text (of_file.Call error) = error_text error
problem_text of_file.NotAStore = codes "not a store"
problem_text of_file.WrongSize = codes "not the size of a store: 1,572,864 or 6,291,456 bytes"
problem_text of_file.BadSlot = codes "damaged: a slot can't be read"
problem_text of_file.BadImage = codes "damaged: the image in a slot can't be read"
problem_text of_file.BadBatch = codes "damaged: a batch can't be read"
problem_text of_file.BadRecord = codes "damaged: a record can't be read"
problem_text of_file.BadEvent = codes "damaged: an event isn't allowed at its place"
problem_text of_file.NumbersSpent = codes "its numbers are used up"
problem_text of_file.Large = codes "is a large store already; OLD has to be a small one"

-- What a fault says of a file's content: nothing, if memory was missing or a call failed.
abbrev pub problem_of : RunFault → Option FileProblem
problem_of (Store (Faulty of_store.NotAStore)) = Some of_file.NotAStore
problem_of (Store (Faulty of_store.WrongSize)) = Some of_file.WrongSize
problem_of (Store (Faulty of_store.BadSlot)) = Some of_file.BadSlot
problem_of (Store (Faulty of_store.BadImage)) = Some of_file.BadImage
problem_of (Store (Faulty of_store.BadBatch)) = Some of_file.BadBatch
problem_of (Store (Faulty of_store.BadRecord)) = Some of_file.BadRecord
problem_of (Store (Faulty of_store.BadEvent)) = Some of_file.BadEvent
problem_of (Store (Faulty of_store.NumbersSpent)) = Some of_file.NumbersSpent
problem_of why = None

-- The same for a store with the layout `from`, if it has one, of which a store of the layout `to`
-- was to be made, if any: a store of which none can be made is a large one.
abbrev pub source_problem : (from to : Option Layout) → RunFault → Option FileProblem
source_problem (Some from) None why = Some of_file.Large
source_problem from to why = problem_of why

-- What is printed to be wrong with a file: the error of its first call that failed. If none failed,
-- this problem of its content, if there is one.
abbrev pub first_problem : Option FileError → (held : Option FileProblem) → Option FileProblem
first_problem (Some error) held = Some (of_file.Call error)
first_problem None held = held

-- For a store's fault, the file of this name is printed, if anything is wrong with it: the first
-- error that was noted of it (Noted), or else this problem of its content. For any other fault,
-- such as missing memory, no file is printed.
abbrev pub NamesBy : (Noted : Option FileError → Type 0) → RunFault → (held : Option FileProblem)
    → List ℕ → Option FileFailure → Type 0
NamesBy Noted (Store why) held name file =
    IfSome file (λ f. name_text f.name ≡ name) × ((first : Option FileError) × Noted first
    × (option_map (λ f. f.problem) file ≡ first_problem first held))
NamesBy Noted why held name file = file ≡ None

-- The file of this name is printed with the first error that was noted of it, or else with what the
-- fault says of its content.
abbrev pub Names : (Noted : Option FileError → Type 0) → List ℕ → Failure → Type 0
Names Noted name failure = NamesBy Noted failure.fault (problem_of failure.fault) name failure.file

-- The same for a store with the layout `from`, of which one of the layout `to` was to be made.
abbrev pub NamesSource : (Noted : Option FileError → Type 0) → (from to : Option Layout) → List ℕ
    → Failure → Type 0
NamesSource Noted from to name failure =
    NamesBy Noted failure.fault (source_problem from to failure.fault) name failure.file

-- If no store was made in a new file of the one in an old file, the one that is to blame is printed
-- like this.
abbrev pub NamesOf : (Old New : Failure → Type 0) → MigrateFault → Failure → Type 0
NamesOf Old New of_two.Memory failure = failure.file ≡ None
NamesOf Old New (of_two.Old why) failure = Old failure
NamesOf Old New (of_two.New why) failure = New failure

-- The program's fault for a fault of a migration or a renewal.
abbrev pub unmigrated : MigrateFault → RunFault
unmigrated of_two.Memory = Memory
unmigrated (of_two.Old why) = stopped why
unmigrated (of_two.New why) = stopped why

-- This stream is printed with the first error that was noted of it; or nothing, if none was.
abbrev pub IsStream : (Noted : Option FileError → Type 0) → FileName → Option FileFailure → Type 0
IsStream Noted name stream =
    (first : Option FileError) × Noted first
    × (stream ≡ option_map (λ error. record { name = name; problem = of_file.Call error }) first)

-- The stream that is to blame for a fault is printed: standard input or standard output, with the
-- first error that was noted of it (Input or Output). For any other fault no stream is printed.
abbrev pub Blames : (OfInput OfOutput : Option FileError → Type 0) → RunFault → Option FileFailure
    → Type 0
Blames OfInput OfOutput Input stream = IsStream OfInput StandardInput stream
Blames OfInput OfOutput Output stream = IsStream OfOutput StandardOutput stream
Blames OfInput OfOutput why stream = stream ≡ None

-- The fault of a file that couldn't be opened or made: memory is missing, or the device failed.
abbrev pub fault_of : FileError → RunFault
fault_of NoMemory = Memory
fault_of _ = Store (Faulty DiskFailed)

-- The file of this name couldn't be opened, made or replaced. It is named with this error, and the
-- fault is that of the error.
abbrev pub IsNoFile : FileError → List ℕ → Failure → Type 0
IsNoFile error name failure =
    (file : FileFailure) × (failure.file ≡ Some file) × (file.problem ≡ of_file.Call error)
    × (name_text file.name ≡ name) × (failure.fault ≡ fault_of error)

-- The file that is to blame if a new store couldn't replace the old one: the file beside, if
-- another program has that open, or else the store's own.
abbrev pub blamed : List ℕ → FileError → List ℕ
blamed store InUse = beside store
blamed store _ = store

-- A new store couldn't replace the old one. The file that is to blame is named with this error, and
-- the fault is that of the error.
abbrev pub IsUnput : FileError → List ℕ → Failure → Type 0
IsUnput error store failure = IsNoFile error (blamed store error) failure

-- This fault ended the subcommand, and this holds for the failure.
abbrev pub FailsBy : (Failure → Type 0) → RunFault → Result Done Failure → Type 0
FailsBy Of why answer =
    (failure : Failure) × (answer ≡ Err failure) × (failure.fault ≡ why) × Of failure

-- This fault ended a migration or a renewal, and the file that is to blame is printed like this.
abbrev pub FailsOf : (Old New : Failure → Type 0) → MigrateFault → Result Done Failure → Type 0
FailsOf Old New why answer = FailsBy (NamesOf Old New why) (unmigrated why) answer

-- The result of a subcommand that did this: all is well, or the same fault ended it.
abbrev pub AnswersOver :
    {T : Type 0} → (Failure → Type 0) → Result T RunFault → Result Done Failure → Type 0
AnswersOver Of (Ok done) answer = answer ≡ Ok Well
AnswersOver Of (Err why) answer = FailsBy Of why answer

-- The same for a strict run, which may have ended at a line that was bad or refused.
abbrev pub AnswersStrict : (Failure → Type 0) → Result (Option RejectedLine) RunFault
    → Result Done Failure → Type 0
AnswersStrict Of (Ok None) answer = answer ≡ Ok Well
AnswersStrict Of (Ok (Some line)) answer = answer ≡ Ok (Rejection line)
AnswersStrict Of (Err why) answer = FailsBy Of why answer

-- The same without a file.
abbrev pub AnswersAlone : {T : Type 0} → Result T RunFault → Result Done Failure → Type 0
AnswersAlone done answer = AnswersOver (λ failure. failure.file ≡ None) done answer

-- The file of this name couldn't be opened or made, and that is the result: it names the error for
-- which this holds.
abbrev pub HasNoFile : (Returned : FileError → Type 0) → List ℕ → Result Done Failure → Type 0
HasNoFile Returned name answer =
    (failure : Failure) × (error : FileError) × Returned error × (answer ≡ Err failure)
    × IsNoFile error name failure
