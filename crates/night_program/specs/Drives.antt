-- What `drive` does with the store in a file.
use Rattle.std.specs.Prelude.{◌≡◌, ◌⊎◌, ℕ, List, Option, Result, Ok, Err}
use Rattle.run_disk.specs.Disk.{DiskState}
use Rattle.console_lines.specs.declared.faults.RunFault.{RunFault}
use Rattle.console_lines.specs.declared.rejections.Rejection.TheVariants.{BadLine}
use Rattle.drive_runs.specs.Runs.{LeavesDriven}
use Rattle.drive_runs.specs.declared.drive_ends.DriveEnd.{DriveEnd}
use Rattle.drive_runs.specs.declared.drive_ends.DriveEnd.TheVariants.{Bad, InputEnded, Over}
use Rattle.drive_runs.specs.declared.drive_ends.DriveEnd.TheVariants.{Refused}
use Rattle.drive_runs.specs.declared.drive_ends.DriveEnd.TheVariants as drive_end
use Rattle.store_files.specs.Files.{FilesView, HoldsAlone, IsSettled, ToOpen}
use Rattle.store_words.specs.declared.endings.Done.{Done}
use Rattle.store_words.specs.declared.endings.Done.TheVariants.{Full, NoPlan, Rejection, Well}
use Rattle.store_words.specs.declared.failures.Failure.{Failure}
use Rattle.store_words.specs.Failures.{FailsBy, HasNoFile, Names}

-- The result of the program after a drive: all is well, the store is full, the plan was refused, a
-- line couldn't be taken, or the same fault ended it.
abbrev pub AnswersDrive :
    (Failure → Type 0) → Result DriveEnd RunFault → Result Done Failure → Type 0
AnswersDrive Of (Ok InputEnded) answer = answer ≡ Ok Well
AnswersDrive Of (Ok Over) answer = answer ≡ Ok Well
AnswersDrive Of (Ok drive_end.Full) answer = answer ≡ Ok Full
AnswersDrive Of (Ok Refused) answer = answer ≡ Ok NoPlan
AnswersDrive Of (Ok (Bad line)) answer =
    answer ≡ Ok (Rejection (record { number = line; why = BadLine }))
AnswersDrive Of (Err why) answer = FailsBy Of why answer

module _ {F D : Type 0} (state : D → DiskState) (seen : FilesView F D) where
  -- The file of this name was opened, and a night was driven over the store in it by the lines of
  -- the input; and the file is the disk that the drive left. Its answers were printed, and nothing
  -- else.
  pub record Drives (store : List ℕ) (answer : Result Done Failure) (f0 f1 : F)
      (r0 r1 w0 w1 : Option (List ℕ)) : Type 0 where
    pub given : D
    pub left : D
    pub held : HoldsAlone seen seen.opens store given left f0 f1
    pub settled : IsSettled (state given)
    pub done : Result DriveEnd RunFault
    pub leaves : LeavesDriven state given left r0 r1 w0 w1 done
    pub answers : AnswersDrive (Names (seen.notes given) store) done answer

  -- If the file couldn't be opened, nothing was read or printed.
  abbrev pub DoesDrive : List ℕ → Result Done Failure → (f0 f1 : F)
      → (r0 r1 w0 w1 : Option (List ℕ)) → Type 0
  DoesDrive store answer f0 f1 r0 r1 w0 w1 =
      (HasNoFile (seen.refuses ToOpen f0 store) store answer × (f1 ≡ f0) × (r1 ≡ r0) × (w1 ≡ w0))
      ⊎ Drives store answer f0 f1 r0 r1 w0 w1
