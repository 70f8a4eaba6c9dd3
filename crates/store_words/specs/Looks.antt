-- What is printed of a store that another program has open.
use Rattle.std.specs.Prelude.{◌≡◌, ◌⊎◌, ⊤, ℕ, List, Option, None, Result}
use Rattle.std.specs.Global.{Global}
use Rattle.run_model.specs.declared.faults.Fault.{Fault}
use Rattle.run_model.specs.declared.faults.Fault.TheVariants.{DiskFailed, Memory}
use Rattle.run_model.specs.Layouts.{layout_of}
use Rattle.run_disk.specs.declared.memory_disks.MemoryDisk.{MemoryDisk}
use Rattle.run_disk.specs.Disk.{Begins, DiskState}
use Rattle.run_disk.specs.MemoryDisks.{state_of}
use Rattle.run_disk.specs.Runs.{OnlyReads}
use Rattle.console_lines.specs.declared.faults.RunFault.{RunFault}
use Rattle.console_lines.specs.Faults.{stopped}
use Rattle.state_views.specs.declared.views.View.{View}
use Rattle.store_words.specs.declared.endings.Done.{Done}
use Rattle.store_words.specs.declared.failures.Failure.{Failure}
use Rattle.store_words.specs.Failures.{AnswersOver, FailsBy, HasNoFile, Names}
use Rattle.store_files.specs.declared.file_errors.FileError.TheVariants.{InUse}
use Rattle.store_files.specs.Files.{FilesView, IsReadTwice}
use Rattle.store_words.specs.Stores.{InspectEnds}

-- A disk in memory begins with the bytes that two reads in a row returned. If the disk is honest,
-- it held them.
pub record IsCopy {F D : Type 0} (seen : FilesView F D) (given : DiskState) (left : D)
    (copy : DiskState) : Type 0 where
  pub bytes : List ℕ
  pub twice : IsReadTwice seen bytes left
  pub begins : Begins bytes copy
  pub same : given.honest → bytes ≡ given.now

-- Why a store wasn't copied: a read failed, or memory was refused.
abbrev pub IsUnread : Fault → Type 0
IsUnread why = (why ≡ DiskFailed) ⊎ (why ≡ Memory)

-- A store was inspected through a disk in memory, which has the bytes that two reads returned.
pub record LooksAt {T F D : Type 0} (view : View) (state : D → DiskState) (seen : FilesView F D)
    (given left : D) (done : Result T RunFault) (w0 w1 : Option (List ℕ)) : Type 0 where
  pub copy : MemoryDisk Global
  pub shown : MemoryDisk Global
  pub is_copy : IsCopy seen (state given) left (state_of copy)
  pub inspects : InspectEnds view state_of copy done shown w0 w1

-- The file doesn't have the size of a store, and that was reported. Or the store was inspected. Or
-- nothing was printed, because it couldn't be read, or because no two reads in a row agreed, so it
-- is in use. Nothing was written to it.
abbrev pub LookEnds : {F D : Type 0} → View → (D → DiskState) → FilesView F D → (store : List ℕ)
    → (given : D) → Result Done Failure → (left : D) → (w0 w1 : Option (List ℕ)) → Type 0
LookEnds view state seen store given answer left w0 w1 =
    ((done : Result ⊤ RunFault) × (layout_of (state given).size ≡ None)
    × InspectEnds view state given done left w0 w1
    × AnswersOver (Names (seen.notes given) store) done answer)
    ⊎ (((state given).honest → OnlyReads (state given) (state left))
    × (((done : Result ⊤ RunFault) × LooksAt view state seen given left done w0 w1
    × AnswersOver (Names (seen.notes given) store) done answer)
    ⊎ ((w1 ≡ w0) × (HasNoFile (λ error. error ≡ InUse) store answer
    ⊎ ((why : Fault) × IsUnread why
    × FailsBy (Names (seen.notes given) store) (stopped why) answer)))))
