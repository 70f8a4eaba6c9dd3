-- What a crew's night over a store comes to, and the look before it at the jobs of its tasks.
use Rattle.std.specs.Prelude.{◌≡◌, ◌⊎◌, Bool, true, false, Some, None, Result, Ok}
use Rattle.std.specs.Prelude.{All, Err, List, ℕ, ⊤}
use Rattle.run_model.specs.declared.faults.Fault.{Fault}
use Rattle.run_disk.specs.Disk.{DiskState}
use Rattle.console_lines.specs.declared.faults.RunFault.{RunFault}
use Rattle.console_lines.specs.Faults.{stopped}
use Rattle.run_crew.specs.declared.notes.Note.{Note}
use Rattle.run_crew.specs.Courses.{IsSomeShift}
use Rattle.run_crew.specs.Nights.{OfDesk}
use Rattle.run_crew.specs.Openings.{Known}
use Rattle.store_words.specs.declared.endings.Done.{Done}
use Rattle.store_words.specs.declared.endings.Done.TheVariants.{Strayed, Unknown, Well}
use Rattle.store_words.specs.declared.failures.Failure.{Failure}
use Rattle.store_words.specs.declared.endings.UnknownJob.{UnknownJob}
use Rattle.store_words.specs.Failures.{FailsBy}
use Rattle.night_program.specs.Known.{FindsUnknown}

-- Each of these lists of notes is that of a worker's shift, however many tasks the workers have
-- started. Some desk whose book carries on from what is known gave each answer under the lock, and
-- the gate let each turn pass.
abbrev pub AreOpenShifts
    : {D : Type 0} → (D → DiskState) → Known → List (List Note) → (starts : ℕ) → Type 0
AreOpenShifts state known lists starts =
    All (IsSomeShift (OfDesk state known (λ task turn answer. answer ≡ true) (λ task. ⊤))) lists

-- The result of the program after a night: all is well, the audit found a difference, or the same
-- fault ended it.
abbrev pub AnswersCrew :
    (Failure → Type 0) → Result Bool RunFault → Result Done Failure → Type 0
AnswersCrew Of (Ok true) answer = answer ≡ Ok Well
AnswersCrew Of (Ok false) answer = answer ≡ Ok Strayed
AnswersCrew Of (Err why) answer = FailsBy Of why answer

-- Before the night the disk wasn't read; or it was, and no task with an unknown job was found.
abbrev pub IsLooked : {D : Type 0} → (D → DiskState) → (known : Bool) → (given begun : D) → Type 0
IsLooked state false given begun = begun ≡ given
IsLooked state true given begun = FindsUnknown state given (Ok None) begun

-- The reading found tasks with unknown jobs, or no state, and the failure is like this (Of).
abbrev pub StopsAt : {D : Type 0} → (D → DiskState) → (Of : Failure → Type 0) → (given : D)
    → Result Done Failure → (read : D) → Type 0
StopsAt state Of given answer read =
    ((job : UnknownJob) × FindsUnknown state given (Ok (Some job)) read
    × (answer ≡ Ok (Unknown job)))
    ⊎ ((why : Fault) × FindsUnknown state given (Err why) read
    × FailsBy Of (stopped why) answer)
