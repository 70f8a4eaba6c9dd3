-- What a migration returns, and what it leaves of its two disks. It reads a small store, and makes
-- a large one from the state in it.
--
-- It reports the first fault that applies, in this order: Old(WrongSize) if the old disk doesn't
-- have the size of a small store; New(WrongSize) if the new one doesn't have that of a large store;
-- Memory; the faults of a recovery of the old disk, beginning with DiskFailed, as Old;
-- Old(NumbersSpent) if its state has 2^62 events or more; New(DiskFailed).
use Rattle.std.specs.Prelude.{◌≡◌, ◌⊎◌, ◌<◌, ◌≤◌, ◌+◌, ◌^◌, ℕ, List, Result, Ok, Err, MatchResult}
use Rattle.std.specs.Prelude.{IfOk}
use Rattle.run_model.specs.declared.faults.Fault.TheVariants.{DiskFailed, Memory, NumbersSpent}
use Rattle.run_model.specs.declared.faults.Fault.TheVariants.{WrongSize}
use Rattle.run_model.specs.declared.layouts.Layout.{Layout}
use Rattle.run_model.specs.declared.layouts.Layout.TheVariants.{Small, Large}
use Rattle.run_model.specs.Layouts.{store_len}
use Rattle.run_model.specs.State.{State}
use Rattle.run_disk.specs.Disk.{DiskState, IsAtRest, last_moment}
use Rattle.run_disk.specs.Runs.{LeavesOnly, OnlyReads, Passed}
use Rattle.run_journal.specs.Pairs.{AreZeros}
use Rattle.run_journal.specs.Recoveries.{Made}
use Rattle.book_model.specs.declared.migrations.MigrateFault.{MigrateFault}
use Rattle.book_model.specs.declared.migrations.MigrateFault.TheVariants as why
use Rattle.book_model.specs.Openings.{HasRecovered, RecoversNone}
use Rattle.book_model.specs.Stores.{Stores, StoresFresh, StoresNothingOr}

-- The state in this layout. The count, the clock and all rows stay as they were.
abbrev pub in_layout : Layout → State → State
in_layout layout p = record p {
  tree = record p.tree { layout = layout };
  work = record p.work { layout = layout };
}

-- The state in the large layout, as a migration stores it. No task was interrupted.
abbrev pub widened : State → State
widened p = in_layout Large p

-- The old disk has the size of a small store, and the new one that of a large one.
pub record AreSized (old given : DiskState) : Type 0 where
  pub small : old.size ≡ store_len Small
  pub large : given.size ≡ store_len Large

-- ---- the old disk, which is read

-- The store was read, by three calls, none of which failed. It stores this state, which has fewer
-- than 2^62 events.
pub record HasReadStore (p : State) (old read : DiskState) : Type 0 where
  pub recovered : HasRecovered p old read
  pub few : p.count < 2 ^ 62

-- The store was read, but its state has 2^62 events or more.
pub record HasReadTooMany (old read : DiskState) : Type 0 where
  pub state : State
  pub recovered : HasRecovered state old read
  pub many : 2 ^ 62 ≤ state.count

-- Why a disk that has the size of a store holds no state to copy, for each fault that reports it,
-- and what is left of the disk. If memory was refused, no call was made.
abbrev pub ReadsNot : {D : Type 0} → (D → DiskState) → D → MigrateFault → D → Type 0
ReadsNot from old why.Memory read = read ≡ old
ReadsNot from old (why.Old WrongSize) read = ⊥
ReadsNot from old (why.Old Memory) read = ⊥
ReadsNot from old (why.Old NumbersSpent) read = HasReadTooMany (from old) (from read)
ReadsNot from old (why.Old fault) read = RecoversNone from old fault read
ReadsNot from old (why.New fault) read = ⊥

-- ---- the new disk, which is written

-- Suppose that the new disk held zeros, and that a crash could have left nothing else. Then a crash
-- at any moment since leaves a disk that stores nothing, or this state.
abbrev pub CrashesWriting : State → DiskState → DiskState → Type 0
CrashesWriting p given new =
    given.honest → ((x : List ℕ) → given.images x → AreZeros x)
    → LeavesOnly (StoresNothingOr p) given new

-- A store of this state was made, by eight calls, none of which failed. Every crash now leaves a
-- fresh store of it, in generation 0. The disk is at rest if it was at rest before.
pub record HasWritten (layout : Layout) (p : State) (given new : DiskState) : Type 0 where
  pub made : Made 8 given new
  pub passed : Passed given new
  pub stores : given.honest → (x : List ℕ) → new.images x → Stores x p
  pub fresh : given.honest → (x : List ℕ) → new.images x → StoresFresh layout 0 p x
  pub rest : given.honest → IsAtRest given → IsAtRest new
  pub crashes : CrashesWriting p given new

-- A call failed, or the disk is spent. The disk may hold no store.
pub record HasFailedWrite (p : State) (given new : DiskState) : Type 0 where
  pub most : new.clock ≤ given.clock + 8
  pub cause : (given.failures < new.failures) ⊎ (new.clock ≡ last_moment)
  pub passed : Passed given new
  pub crashes : CrashesWriting p given new

-- The store was made, if there was no fault.
abbrev pub Writes : {F : Type 0} → Layout → State → DiskState → Result (Unit {0}) F → DiskState
    → Type 0
Writes layout p given result new =
    MatchResult result (λ _. HasWritten layout p given new) (λ _. HasFailedWrite p given new)

-- ---- a migration

-- The small store was read, and the large one was made from its state.
pub record HasMigrated (old read given new : DiskState) : Type 0 where
  pub sized : AreSized old given
  pub state : State
  pub found : HasReadStore state old read
  pub written : HasWritten Large (widened state) given new

-- The small store was read, but a call of the new disk failed, or the new disk is spent.
pub record HasStopped (old read given new : DiskState) : Type 0 where
  pub sized : AreSized old given
  pub state : State
  pub found : HasReadStore state old read
  pub failed : HasFailedWrite (widened state) given new

-- Neither disk was called.
abbrev pub AreUncalled : {D E : Type 0} → D → E → D → E → Type 0
AreUncalled old given read new = (read ≡ old) × (new ≡ given)

-- Why no large store was made, for each fault that reports it, and what is left of the two disks.
-- The new disk is untouched, unless a call of it failed.
abbrev pub MigratesNot : {D E : Type 0} → (D → DiskState) → (E → DiskState) → D → E
    → MigrateFault → D → E → Type 0
MigratesNot from to old given (why.Old WrongSize) read new =
    ((from old).size ≡ store_len Small → ⊥) × AreUncalled old given read new
MigratesNot from to old given (why.New WrongSize) read new =
    ((from old).size ≡ store_len Small) × ((to given).size ≡ store_len Large → ⊥)
    × AreUncalled old given read new
MigratesNot from to old given (why.New DiskFailed) read new =
    HasStopped (from old) (from read) (to given) (to new)
MigratesNot from to old given (why.New fault) read new = ⊥
MigratesNot from to old given fault read new =
    AreSized (from old) (to given) × ReadsNot from old fault read × (new ≡ given)

-- The result of a migration: the new disk, and also the fault if there is one.
abbrev pub AnswersMigration : {D E : Type 0} → (D → DiskState) → (E → DiskState) → D → E
    → Result E (MigrateFault × E) → D → Type 0
AnswersMigration from to old given result read =
    MatchResult result (λ new. HasMigrated (from old) (from read) (to given) (to new))
    (λ e. MigratesNot from to old given e.0 read e.1)

-- The new disk after a migration, which is also returned with a fault.
abbrev pub new_disk : {E : Type 0} → Result E (MigrateFault × E) → E
new_disk (Ok new) = new
new_disk (Err e) = e.1

-- What a migration returns and leaves. The old disk is only read. Suppose that it is honest and
-- stores a state. At Ok every crash of an honest new disk leaves that state, widened. If the new
-- disk held zeros, a crash at any moment since the start leaves nothing or that state.
pub record Migrates {D E : Type 0} (from : D → DiskState) (to : E → DiskState) (old : D)
    (given : E) (result : Result E (MigrateFault × E)) (read : D) : Type 0 where
  pub answer : AnswersMigration from to old given result read
  pub reads : (from old).honest → OnlyReads (from old) (from read)
  pub now : (from old).honest → (to given).honest → (p : State) → Stores (from old).now p
      → IfOk result (λ new. (x : List ℕ) → (to new).images x → Stores x (widened p))
  pub any_moment : (from old).honest → (p : State) → Stores (from old).now p
      → CrashesWriting (widened p) (to given) (to (new_disk result))
