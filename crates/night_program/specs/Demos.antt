-- What a run over a book in memory does.
use Rattle.std.specs.Prelude.{◌≡◌, ◌⊎◌, ℕ, List, Option, Result, Ok, Err}
use Rattle.std.specs.Global.{Global}
use Rattle.run_model.specs.declared.faults.Fault.TheVariants.{DiskFailed}
use Rattle.run_model.specs.declared.faults.Trouble.TheVariants.{Faulty}
use Rattle.run_model.specs.declared.layouts.Layout.TheVariants.{Small}
use Rattle.run_model.specs.Session.{opened}
use Rattle.run_model.specs.State.{formatted}
use Rattle.run_disk.specs.Disk.{DiskState, IsDisk}
use Rattle.run_disk.specs.declared.memory_disks.MemoryDisk.{MemoryDisk}
use Rattle.run_disk.specs.MemoryDisks.{state_of}
use Rattle.book_model.specs.Books.{BookView}
use Rattle.book_model.specs.Stores.{HasSpentNumbers, Stores}
use Rattle.console_lines.specs.declared.faults.RunFault.{RunFault}
use Rattle.console_lines.specs.declared.faults.RunFault.TheVariants as fault
use Rattle.console_lines.specs.declared.rejections.RejectedLine.{RejectedLine}
use Rattle.run_console.specs.RunProgress.{RunEnds, RunStops}
use Rattle.run_console.specs.declared.untils.Until.{Until}

-- An honest disk with a small store that was just formatted, whose numbers aren't used up.
pub record IsNew (disk : DiskState) : Type 0 where
  pub is_disk : IsDisk disk
  pub honest : disk.honest
  pub stores : Stores disk.now (formatted Small)
  pub unspent : HasSpentNumbers disk.now → ⊥

-- There is no book in memory: memory for it was refused, or a call of its disk failed.
abbrev pub IsUnopened : RunFault → Type 0
IsUnopened why = (why ≡ fault.Memory) ⊎ (why ≡ fault.Store (Faulty DiskFailed))

-- The lines of the input were run over a book that was just formatted and opened, until the run had
-- to end.
abbrev pub IsRun : Until → Option RejectedLine → (r0 r1 w0 w1 : Option (List ℕ)) → Type 0
IsRun until stray r0 r1 w0 w1 =
    (b : BookView (MemoryDisk Global)) × (c : BookView (MemoryDisk Global))
    × (b.session ≡ opened Small) × RunEnds state_of until stray b c r0 r1 w0 w1

-- A fault stopped such a run. If there is no book, nothing was read and nothing was written.
abbrev pub IsUnrun : Until → RunFault → (r0 r1 w0 w1 : Option (List ℕ)) → Type 0
IsUnrun until why r0 r1 w0 w1 =
    (IsUnopened why × (r1 ≡ r0) × (w1 ≡ w0))
    ⊎ ((b : BookView (MemoryDisk Global)) × (c : BookView (MemoryDisk Global))
    × (b.session ≡ opened Small) × RunStops state_of until why b c r0 r1 w0 w1)

-- One or the other, by the result.
abbrev pub DemoEnds : Until → Result (Option RejectedLine) RunFault
    → (r0 r1 w0 w1 : Option (List ℕ)) → Type 0
DemoEnds until (Ok stray) r0 r1 w0 w1 = IsRun until stray r0 r1 w0 w1
DemoEnds until (Err why) r0 r1 w0 w1 = IsUnrun until why r0 r1 w0 w1
