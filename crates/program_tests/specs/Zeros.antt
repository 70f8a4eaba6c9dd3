-- A disk of zeros.
use Rattle.std.specs.Prelude.{◌≡◌, ℕ, List}
use Rattle.run_disk.specs.Disk.{DiskState, IsAtRest}
use Rattle.run_journal.specs.Pairs.{AreZeros}

-- The disk has so many zeros, and is at rest.
pub record IsOfZeros (size : ℕ) (disk : DiskState) : Type 0 where
  pub sized : disk.size ≡ size
  pub rest : IsAtRest disk
  pub zeros : (x : List ℕ) → disk.images x → AreZeros x
