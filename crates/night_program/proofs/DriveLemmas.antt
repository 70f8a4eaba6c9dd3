-- How a drive is answered, if more is known of the failure.
use Rattle.std.specs.Prelude.{Result, Ok, Err}
use Rattle.console_lines.specs.declared.faults.RunFault.{RunFault}
use Rattle.store_words.specs.declared.endings.Done.{Done}
use Rattle.store_words.specs.declared.failures.Failure.{Failure}
use Rattle.store_words.proofs.NotedLemmas.{Weaker, fails_by}
use Rattle.night_program.specs.Drives.{AnswersDrive}
use Rattle.drive_runs.specs.declared.drive_ends.DriveEnd.{DriveEnd}
use Rattle.drive_runs.specs.declared.drive_ends.DriveEnd.TheVariants.{Bad, Full, InputEnded}
use Rattle.drive_runs.specs.declared.drive_ends.DriveEnd.TheVariants.{Over, Refused}

-- A failure that is so is also like that.
pub answers_drive : {P Q : Failure → Type 0} (done : Result DriveEnd RunFault)
    (answer : Result Done Failure) → Weaker P Q → AnswersDrive P done answer
    → AnswersDrive Q done answer
answers_drive (Ok InputEnded) answer weaker is = is
answers_drive (Ok Over) answer weaker is = is
answers_drive (Ok Full) answer weaker is = is
answers_drive (Ok Refused) answer weaker is = is
answers_drive (Ok (Bad line)) answer weaker is = is
answers_drive (Err why) answer weaker fails = fails_by why answer weaker fails
