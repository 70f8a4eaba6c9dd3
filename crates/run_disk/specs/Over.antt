-- A disk over another one: it passes some of its calls on, and fails the others by itself.
use Rattle.std.specs.Prelude.{◌≡◌, ◌⊎◌, ◌≤◌, ◌<◌, ◌^◌, ◌+◌, ◌-◌, ◌↔◌, ℕ, List, Result, IsErr, min}
use Rattle.std.proofs.Common.{arith, subst, sym}
use Rattle.run_disk.specs.Disk.{DiskState, IsDisk, last_moment}
use Rattle.run_disk.specs.Calls.{Calls}

-- One call of such a disk. If the disk passes the call on, the disk below makes it, and its result
-- is the result. Otherwise the call fails, and the disk below stays as it was.
pub record Relays {D T E : Type 0}
    (state : D → DiskState) (passes : Type 0) (old new : D) (result : Result T E) : Type 0 where
  pub passed_on : passes → Calls (state old) (state new) result
  pub cut_off : (passes → ⊥) → IsErr result × (new ≡ old)

-- Whatever a crash at any moment since t may have left on one disk, a crash since the corresponding
-- moment may have left on the other, and vice versa.
abbrev pub LeftSame : (ℕ → ℕ) → DiskState → DiskState → Type 0
LeftSame moment one other = (t : ℕ) (x : List ℕ) → one.since t x ↔ other.since (moment t) x

-- Both disks have the same size, reads of both return the same bytes, a crash now may leave the
-- same on both, and one is honest exactly if the other is.
pub record ShowsSame (one other : DiskState) : Type 0 where
  pub size : one.size ≡ other.size
  pub now : one.now ≡ other.now
  pub images : (x : List ℕ) → one.images x → other.images x
  pub images_back : (x : List ℕ) → other.images x → one.images x
  pub unsure : (i : ℕ) → one.unsure i → other.unsure i
  pub unsure_back : (i : ℕ) → other.unsure i → one.unsure i
  pub honest : one.honest → other.honest
  pub honest_back : other.honest → one.honest

-- The calls that such a disk fails by itself: from the first one up to the one before `behind`.
-- Calls are counted from 0.
pub record Gap : Type 0 where
  pub first : ℕ
  pub behind : ℕ

-- The disk passes this call on: it isn't spent at that moment, and the call isn't one of those that
-- it fails.
abbrev pub Passes : Gap → ℕ → Type 0
Passes gap n = (n < last_moment) × ((n < gap.first) ⊎ (gap.behind ≤ n))

-- The number of calls that the disk passes on, of its first n.
abbrev pub passed : Gap → ℕ → ℕ
passed gap n = min gap.first n + (n - gap.behind)

-- The moment of the disk below that corresponds to moment n of this disk, if the clock of the disk
-- below was `first` when this disk was made over it.
abbrev pub moment_of : Gap → ℕ → ℕ → ℕ
moment_of gap first n = min last_moment (first + passed gap n)

-- The state of such a disk over a disk in the state `below`.
abbrev pub over : Gap → ℕ → DiskState → ℕ → ℕ → DiskState
over gap first below calls failed = record {
  size = below.size;
  now = below.now;
  images = below.images;
  since = λ t. below.since (moment_of gap first t);
  clock = calls;
  failures = failed;
  honest = below.honest;
  unsure = below.unsure;
}

-- The invariant of such a disk: the disk below made the calls that were passed on, and no others.
pub record IsOver (gap : Gap) (first : ℕ) (below : DiskState) (calls failed : ℕ) : Type 0 where
  pub in_order : gap.first ≤ gap.behind
  pub made_below : below.clock ≡ moment_of gap first calls
  pub failed_fit : failed ≤ calls
  pub calls_fit : calls < 2 ^ 64

-- Such a state is the state of a disk.
pub over_is_disk : (gap : Gap) (first : ℕ) (below : DiskState) (calls failed : ℕ)
    → IsDisk below → IsOver gap first below calls failed
    → IsDisk (over gap first below calls failed)
over_is_disk gap first below calls failed disk kept = record {
  size_fits = disk.size_fits;
  clock_fits = kept.calls_fit;
  failures_fit = kept.failed_fit;
  size_now = disk.size_now;
  size_image = disk.size_image;
  now_is_image = disk.now_is_image;
  size_since = λ honest t x left. disk.size_since honest (moment_of gap first t) x left;
  counts_now = λ t x early is.
      disk.counts_now (moment_of gap first t) x (omega (arith, kept.made_below)) is;
  only_now = λ x left. disk.only_now x (subst (λ m. below.since m x) (sym kept.made_below) left);
  earlier = λ t u x before within left.
      disk.earlier (moment_of gap first t) (moment_of gap first u) x
      (omega arith) (omega (arith, kept.made_below)) left;
}
