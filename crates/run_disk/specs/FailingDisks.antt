-- A disk over another one, some of whose calls it fails, as contracts see it.
use Rattle.std.specs.Prelude.{◌≡◌, ℕ}
use Rattle.run_disk.specs.declared.disks.RunDisk.{Ghosts}
use Rattle.run_disk.specs.declared.failing_disks.FailingDisk.{FailingDisk}
use Rattle.run_disk.specs.Disk.{DiskState}
use Rattle.run_disk.specs.Over.{Gap, Passes, moment_of, over}

-- The calls that this disk fails by itself.
abbrev pub calls_cut : {D W : Type 0} {g : Ghosts D} → FailingDisk D W g → Gap
calls_cut d = record { first = d.first; behind = d.behind }

-- The clock of the disk below when this disk was made over it.
abbrev pub clock_below : {D W : Type 0} {g : Ghosts D} → FailingDisk D W g → ℕ
clock_below {g = g} d = (g.state d.made.value).clock

-- The state of this disk: its calls and failures are counted separately from those of the disk
-- below.
abbrev pub state_of : {D W : Type 0} {g : Ghosts D} → FailingDisk D W g → DiskState
state_of {g = g} d =
    over (calls_cut d) (clock_below d) (g.state d.disk) d.tally.calls d.tally.failures

-- The disk below.
abbrev pub below : {D W : Type 0} {g : Ghosts D} → FailingDisk D W g → D
below d = d.disk

-- The moment of the disk below that corresponds to this moment of this disk.
abbrev pub moment_below : {D W : Type 0} {g : Ghosts D} → FailingDisk D W g → ℕ → ℕ
moment_below d t = moment_of (calls_cut d) (clock_below d) t

-- This disk passes the next call on.
abbrev pub PassesNext : {D W : Type 0} {g : Ghosts D} → FailingDisk D W g → Type 0
PassesNext d = Passes (calls_cut d) d.tally.calls

-- Both fail the same calls, and their moments correspond to the same moments of the disk below.
pub record IsSetAs {D W : Type 0} {g : Ghosts D} (old new : FailingDisk D W g) : Type 0 where
  pub calls : calls_cut new ≡ calls_cut old
  pub clock_below : clock_below new ≡ clock_below old
