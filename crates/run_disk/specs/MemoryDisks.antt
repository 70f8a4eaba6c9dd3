-- A disk in memory, as contracts see it.
use Rattle.run_disk.specs.declared.memory_disks.MemoryDisk.{MemoryDisk}
use Rattle.run_disk.specs.Disk.{DiskState}
use Rattle.run_disk.specs.Writes.{History}
use Rattle.run_disk.specs.Memory.{memory_state}

-- The state of this disk.
abbrev pub state_of : {A : Type 0} → MemoryDisk A → DiskState
state_of d = memory_state d.history d.tally.calls d.tally.failures

-- What this disk has kept of its calls.
abbrev pub history_of : {A : Type 0} → MemoryDisk A → History
history_of d = d.history
