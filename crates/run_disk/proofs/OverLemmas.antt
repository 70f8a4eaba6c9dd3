-- A disk over another one shows the same.
use Rattle.std.proofs.Common.{ℕ, refl}
use Rattle.run_disk.specs.Disk.{DiskState}
use Rattle.run_disk.specs.Over.{Gap, ShowsSame, over}

-- It shows the same as the disk below.
pub shows_below : (gap : Gap) (first : ℕ) (below : DiskState) (calls failed : ℕ)
    → ShowsSame (over gap first below calls failed) below
shows_below gap first below calls failed = record {
  size = refl;
  now = refl;
  images = λ x is. is;
  images_back = λ x is. is;
  unsure = λ i waits. waits;
  unsure_back = λ i waits. waits;
  honest = λ honest. honest;
  honest_back = λ honest. honest;
}
