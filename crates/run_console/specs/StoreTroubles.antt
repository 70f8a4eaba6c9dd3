-- Why the store stopped a run.
use Rattle.std.specs.Prelude.{◌≡◌, ◌⊎◌, ◌<◌, ◌-◌, ◌^◌, true, false}
use Rattle.run_model.specs.declared.faults.Fault.TheVariants.{DiskFailed, NumbersSpent}
use Rattle.run_model.specs.declared.faults.Trouble.{Trouble}
use Rattle.run_model.specs.declared.faults.Trouble.TheVariants.{Faulty}
use Rattle.run_disk.specs.Disk.{DiskState, last_moment}
use Rattle.book_model.specs.Books.{BookView}
use Rattle.console_lines.specs.declared.faults.RunFault.{RunFault}
use Rattle.console_lines.specs.declared.faults.RunFault.TheVariants as fault

-- A device call has failed since then, or the disk is spent.
abbrev pub DeviceFails : {D : Type 0} → (D → DiskState) → BookView D → BookView D → Type 0
DeviceFails state old new =
    ((state old.journal.disk).failures < (state new.journal.disk).failures)
    ⊎ ((state new.journal.disk).clock ≡ last_moment)

-- The trouble is that no generation is left for a checkpoint, and the book isn't broken.
pub record ReportsSpent {D : Type 0} (why : Trouble) (new : BookView D) : Type 0 where
  pub reported : why ≡ Faulty NumbersSpent
  pub sound : new.journal.broken ≡ false
  pub last : new.journal.generation ≡ 2 ^ 63 - 1

-- The trouble is that a device call has failed since then, or that the disk is spent, and the book
-- is broken.
pub record ReportsFailed {D : Type 0} (state : D → DiskState) (old : BookView D) (why : Trouble)
    (new : BookView D) : Type 0 where
  pub reported : why ≡ Faulty DiskFailed
  pub broken : new.journal.broken ≡ true
  pub cause : DeviceFails state old new

-- The trouble is one of these two.
abbrev pub Reports : {D : Type 0} → (D → DiskState) → BookView D → Trouble → BookView D → Type 0
Reports state old why new = ReportsSpent why new ⊎ ReportsFailed state old why new

-- What a fault that stopped a run over a book that wasn't broken says about its store. A fault of
-- the store gives its trouble. If the writer failed and the book is broken, the book had a trouble,
-- too, whose line wasn't written. After any other fault the book isn't broken.
abbrev pub Accounts :
    {D : Type 0} → (D → DiskState) → BookView D → RunFault → BookView D → Type 0
Accounts state old (fault.Store why) new = Reports state old why new
Accounts state old fault.Output new = new.journal.broken ≡ true → DeviceFails state old new
Accounts state old _ new = new.journal.broken ≡ false
