-- What a run of calls leaves of a disk, from a moment `old` to a later moment `new`.
use Rattle.std.specs.Prelude.{◌≡◌, ◌⊎◌, ◌<◌, ◌≤◌, ◌+◌, ℕ, List, length}
use Rattle.std.specs.Prelude.{Result, OnOk, OnErr, IfErr}
use Rattle.run_model.specs.declared.faults.Fault.{Fault}
use Rattle.run_model.specs.declared.faults.Fault.TheVariants.{DiskFailed}
use Rattle.run_disk.specs.Contents.{Holds, Follows}
use Rattle.run_disk.specs.Disk.{DiskState, IsSynced, last_moment}

-- What any sequence of calls does, on any disk: neither count falls, the size stays the same, and
-- an honest disk stays honest.
pub record Passed (old new : DiskState) : Type 0 where
  pub size : new.size ≡ old.size
  pub honest : old.honest → new.honest
  pub honest_before : new.honest → old.honest
  pub later : old.clock ≤ new.clock
  pub failures_later : old.failures ≤ new.failures

-- What a run does that reports the failures of its calls, on any disk. It is Ok only if no call
-- failed, and a fault only if a call failed or the disk is spent.
pub record Ran {T E : Type 0} (old new : DiskState) (result : Result T E) : Type 0 where
  pub size : new.size ≡ old.size
  pub honest : old.honest → new.honest
  pub honest_before : new.honest → old.honest
  pub later : old.clock ≤ new.clock
  pub failures_later : old.failures ≤ new.failures
  pub fine : OnOk result (new.failures ≡ old.failures)
  pub cause : OnErr result ((old.failures < new.failures) ⊎ (new.clock ≡ last_moment))

-- The run makes n calls, or at most n if it ends with a fault.
pub record Took {T E : Type 0} (n : ℕ) (old new : DiskState) (result : Result T E) : Type 0 where
  pub exactly : OnOk result (new.clock ≡ old.clock + n)
  pub most : new.clock ≤ old.clock + n

-- Call number n, counted from 1, was the last one, and only that call failed. The two counts show
-- this: the call and its failure are counted, unless the disk was spent before it.
abbrev pub FailedAt : ℕ → DiskState → DiskState → Type 0
FailedAt n old new =
    ((new.clock ≡ old.clock + n) × (new.failures ≡ old.failures + 1))
    ⊎ ((new.clock + 1 ≡ old.clock + n) × (new.clock ≡ last_moment)
    × (new.failures ≡ old.failures))

-- No call is made after one that has failed: up to some moment of the run no call had failed, and
-- after that moment only one call was made, which failed.
pub record FailedLast {D : Type 0} (state : D → DiskState) (old new : DiskState) : Type 0 where
  pub before : D
  pub fine : (state before).failures ≡ old.failures
  pub failed : FailedAt 1 (state before) new

-- The result of a run of n calls, on any disk. It makes all of them, or those up to the first one
-- that fails. Its only fault is that a call failed.
pub record MakesCalls {D T : Type 0} (state : D → DiskState) (n : ℕ) (old new : DiskState)
    (result : Result T Fault) : Type 0 where
  pub ran : Ran old new result
  pub took : Took n old new result
  pub last : OnErr result (FailedLast state old new)
  pub fault : IfErr result (λ fault. fault ≡ DiskFailed)

-- At the end of the run, this step leads from the old contents to the new ones. That is true of the
-- bytes that reads return, and of each content that a crash may leave.
pub record Ends (step : List ℕ → List ℕ → Type 0) (old new : DiskState) : Type 0 where
  pub now : step old.now new.now
  pub images : Follows step old.images new.images

-- At every moment of the run, and at its end, this step leads to each content from one that a crash
-- before the run might have left.
pub record Leaves (step : List ℕ → List ℕ → Type 0) (old new : DiskState) : Type 0 where
  pub later : old.clock ≤ new.clock
  pub now : step old.now new.now
  pub images : Follows step old.images new.images
  pub each : Follows step old.images (new.since old.clock)
  -- the same for moments before the run, if it is the last part of a longer run
  pub before : (t : ℕ) (x : List ℕ) → t ≤ old.clock → new.since t x
      → old.since t x ⊎ ((y : List ℕ) × old.images y × step y x)

-- P is true of each content that a crash at any moment of the run may have left.
pub record LeavesOnly (P : List ℕ → Type 0) (old new : DiskState) : Type 0 where
  pub later : old.clock ≤ new.clock
  pub each : (x : List ℕ) → new.since old.clock x → P x
  -- the same for moments before the run, if it is the last part of a longer run
  pub before : (t : ℕ) (x : List ℕ) → t ≤ old.clock → new.since t x → old.since t x ⊎ P x

-- After the run, reads return the same bytes, and no further place is unsure. At no moment of the
-- run could a crash leave anything that a crash before it couldn't have left.
pub record OnlyReads (old new : DiskState) : Type 0 where
  pub later : old.clock ≤ new.clock
  pub now : new.now ≡ old.now
  pub images : (x : List ℕ) → new.images x → old.images x
  pub each : (x : List ℕ) → new.since old.clock x → old.images x
  pub before : (t : ℕ) (x : List ℕ) → t ≤ old.clock → new.since t x → old.since t x ⊎ old.images x
  pub unsure : (i : ℕ) → new.unsure i → old.unsure i

-- A place waits for a failed write only if it waited before.
abbrev pub IsSurer : DiskState → DiskState → Type 0
IsSurer old new = (i : ℕ) → new.unsure i → old.unsure i

-- What a run leaves of an honest disk: at every moment `step` leads to each content, and at Ok
-- `end` does, durably.
pub record LeavesForGood {T E : Type 0} (step end : List ℕ → List ℕ → Type 0)
    (old new : DiskState) (result : Result T E) : Type 0 where
  pub any_moment : old.honest → Leaves step old new
  pub ends : old.honest → OnOk result (Ends end old new)
  pub synced : old.honest → OnOk result (IsSynced new)
  pub sure : old.honest → OnOk result (IsSurer old new)

-- Reads return these bytes from `at` on, and none of these places is unsure. So the next sync makes
-- them durable.
pub record Stands (at : ℕ) (bytes : List ℕ) (s : DiskState) : Type 0 where
  pub now : Holds at bytes s.now
  pub sure : (i : ℕ) → i < length bytes → s.unsure (at + i) → ⊥
