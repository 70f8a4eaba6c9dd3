-- What one read, write or sync does to a disk.
use Rattle.std.specs.Prelude.{◌≡◌, ◌⊎◌, ◌<◌, ◌≤◌, ◌+◌, ℕ, List, length, Result, OnOk, OnErr}
use Rattle.run_disk.specs.Contents.{SameOutside, Holds, Follows}
use Rattle.run_disk.specs.Disk.{DiskState, IsSame, IsSynced, last_moment}

-- What each call does, on any disk. The call is counted, and so is its failure. A crash during the
-- call leaves what a crash before it or after it may leave. On a spent disk each call fails, and
-- changes nothing.
pub record Calls {T E : Type 0} (old new : DiskState) (result : Result T E) : Type 0 where
  pub size : new.size ≡ old.size
  pub honest : old.honest → new.honest
  pub honest_before : new.honest → old.honest
  pub ticks : old.clock < last_moment → new.clock ≡ old.clock + 1
  pub fine : OnOk result ((old.clock < last_moment) × (new.failures ≡ old.failures))
  pub fails : OnErr result (old.clock < last_moment → new.failures ≡ old.failures + 1)
  pub spent : old.clock ≡ last_moment → IsSame old new
  pub nothing_else :
      (t : ℕ) (x : List ℕ) → t ≤ old.clock → new.since t x → old.since t x ⊎ new.images x
  pub keeps : (t : ℕ) (x : List ℕ) → t ≤ old.clock → old.since t x → new.since t x

-- What a read does to an honest disk, even if it fails: reads still return the same bytes, a crash
-- can leave nothing else than before, and no further place is unsure.
pub record Reads (old new : DiskState) : Type 0 where
  pub now : new.now ≡ old.now
  pub images : (x : List ℕ) → new.images x → old.images x
  pub unsure : (i : ℕ) → new.unsure i → old.unsure i

-- What a write of these bytes does to an honest disk. A crash after the write may leave whatever a
-- crash before it might have left, with any bytes in the written range. At Ok reads return the
-- written bytes there, and no place there is unsure. After a failure the bytes there are unknown
-- until they are written again.
pub record Writes {T E : Type 0}
    (at : ℕ) (bytes : List ℕ) (old new : DiskState) (result : Result T E) : Type 0 where
  pub elsewhere : SameOutside at (length bytes) old.now new.now
  pub written : OnOk result (Holds at bytes new.now)
  pub images : Follows (SameOutside at (length bytes)) old.images new.images
  pub sure : OnOk result
      ((i : ℕ) → new.unsure i → old.unsure i × ((i < at) ⊎ (at + length bytes ≤ i)))
  pub unsure : OnErr result
      ((i : ℕ) → new.unsure i → old.unsure i ⊎ ((at ≤ i) × (i < at + length bytes)))

-- What a sync does to an honest disk: reads return the same bytes, and a crash can leave nothing
-- else than before. At Ok the disk is synced.
pub record Syncs {T E : Type 0} (old new : DiskState) (result : Result T E) : Type 0 where
  pub now : new.now ≡ old.now
  pub images : (x : List ℕ) → new.images x → old.images x
  pub unsure : (i : ℕ) → new.unsure i → old.unsure i
  pub synced : OnOk result (IsSynced new)
