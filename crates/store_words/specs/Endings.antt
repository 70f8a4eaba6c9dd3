-- How the program ends: its exit status, and what it prints on standard error.
use Rattle.std.specs.Prelude.{◌≡◌, ◌∷◌, ◌++◌, [], ℕ, Bool, true, List, Option, Result, Ok, Err}
use Rattle.std.specs.Prelude.{codes}
use Rattle.std.specs.Fmt.{decimal}
use Rattle.std.specs.Option.{option_map_or}
use Rattle.console_lines.specs.declared.faults.RunFault.{RunFault}
use Rattle.console_lines.specs.declared.faults.RunFault.TheVariants as fault
use Rattle.console_lines.specs.Faults.{stop_text}
use Rattle.console_lines.specs.declared.rejections.Rejection as strays
use Rattle.console_lines.specs.declared.rejections.Rejection.TheVariants.{CarriageReturn}
use Rattle.console_lines.specs.declared.rejections.RejectedLine.{RejectedLine}
use Rattle.console_lines.specs.Strict.{rejection_text}
use Rattle.store_files.specs.ErrorSinks.{SinkState, IsPrinted}
use Rattle.store_words.specs.declared.endings.Done.{Done}
use Rattle.store_words.specs.declared.endings.Done.TheVariants.{Full, NoPlan, Rejection}
use Rattle.store_words.specs.declared.endings.Done.TheVariants.{Strayed, Unknown, Well}
use Rattle.store_words.specs.declared.endings.Ended.{Ended}
use Rattle.store_words.specs.declared.failures.Failure.{Failure}
use Rattle.store_words.specs.declared.failures.FileFailure.{FileFailure}
use Rattle.store_words.specs.declared.endings.UnknownJob.{UnknownJob}
use Rattle.store_words.specs.Failures.{name_text, problem_text}

-- The exit status if a fault ended the program. Missing memory has one of its own.
abbrev pub fault_status : RunFault → ℕ
fault_status fault.Memory = 4
fault_status _ = 3

-- The line of a fault, such as `night: fault 3 NotAStore`.
abbrev pub fault_line : RunFault → List ℕ
fault_line why = codes "night: " ++ stop_text why ++ 10 ∷ []

-- The exit status if no fault ended the program.
abbrev pub done_status : Done → ℕ
done_status Well = 0
done_status Strayed = 3
done_status (Rejection line) = 1
done_status (Unknown job) = 3
done_status NoPlan = 1
done_status Full = 3

-- The line of a job that a crew doesn't know, such as `night: unknown job mail; tasks 3`.
abbrev pub unknown_line : UnknownJob → List ℕ
unknown_line unknown =
    codes "night: unknown job "
    ++ (unknown.job ++ (codes "; tasks " ++ (decimal unknown.tasks ++ codes "\n")))

-- The line that is printed of an input line at which a strict run ended, such as `night: line 7:
-- bad line`.
abbrev pub stray_line : RejectedLine → List ℕ
stray_line line = codes "night: " ++ (rejection_text line ++ codes "\n")

-- The line that is printed if the input line of this number was bad because of its carriage return,
-- as `night: line 7: it ends with a carriage return`; else nothing.
abbrev pub return_line : strays.Rejection → (number : ℕ) → List ℕ
return_line CarriageReturn number =
    codes "night: line " ++ (decimal number ++ codes ": it ends with a carriage return\n")
return_line _ number = []

-- Both lines are printed.
abbrev pub stray_lines : RejectedLine → List ℕ
stray_lines line = stray_line line ++ return_line line.why line.number

-- What is printed on standard error if no fault ended the program: the input line at which a strict
-- run ended, a job that a crew doesn't know, that a plan is refused, or that a store is full; else
-- nothing. The difference that an audit found is printed on standard output.
abbrev pub PrintsDone : Done → Bool → (e0 e1 : SinkState) → Type 0
PrintsDone (Rejection line) reported e0 e1 = IsPrinted reported (stray_lines line) e0 e1
PrintsDone (Unknown unknown) reported e0 e1 = IsPrinted reported (unknown_line unknown) e0 e1
PrintsDone NoPlan reported e0 e1 = IsPrinted reported (codes "night: the plan is refused\n") e0 e1
PrintsDone Full reported e0 e1 = IsPrinted reported (codes "night: the store is full\n") e0 e1
PrintsDone _ reported e0 e1 = (reported ≡ true) × (e1 ≡ e0)

-- The line of a file or a stream that is to blame, such as `night: jobs.store: not a store`.
abbrev pub file_line : FileFailure → List ℕ
file_line file =
    codes "night: "
    ++ (name_text file.name ++ (codes ": " ++ (problem_text file.problem ++ codes "\n")))

-- The same line, if a file or a stream is to blame; else nothing.
abbrev pub blamed_line : Option FileFailure → List ℕ
blamed_line file = option_map_or file_line file []

-- The lines of a failure: the line of its fault, and after it those of the file and of the stream
-- that are to blame.
abbrev pub failure_lines : Failure → (stream : Option FileFailure) → List ℕ
failure_lines failure stream =
    fault_line failure.fault ++ (blamed_line failure.file ++ blamed_line stream)

-- The subcommand came to this result, or a fault ended it, and that is printed. So is the stream
-- that is to blame for the fault (Stream).
abbrev pub EndsBy : (Stream : RunFault → Option FileFailure → Type 0) → Result Done Failure → Ended
    → (e0 e1 : SinkState) → Type 0
EndsBy Stream (Ok done) ended e0 e1 =
    (ended.status ≡ done_status done) × PrintsDone done ended.printed e0 e1
EndsBy Stream (Err failure) ended e0 e1 =
    (ended.status ≡ fault_status failure.fault)
    × ((stream : Option FileFailure) × Stream failure.fault stream
    × IsPrinted ended.printed (failure_lines failure stream) e0 e1)
