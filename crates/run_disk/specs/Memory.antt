-- A disk in memory, as contracts see it.
use Rattle.std.specs.Prelude.{◌≡◌, ◌<◌, ◌≤◌, ◌^◌, ℕ, length}
use Rattle.std.specs.List.{All}
use Rattle.std.proofs.Common.{subst, arith}
use Rattle.std.proofs.lemmas.List.FromFn.{get_or-map-range_with_len, length-map-range_with_len}
use Rattle.run_disk.specs.declared.tears.Torn.TheVariants.{Take}
use Rattle.run_disk.specs.Disk.{DiskState, IsDisk}
use Rattle.run_disk.specs.Writes.{History}
use Rattle.run_disk.specs.History.{IsImage, IsLeftSince, byte_after, bytes_after}

-- The state of a disk with this history.
abbrev pub memory_state : History → ℕ → ℕ → DiskState
memory_state h clock failures = record {
  size = length h.first;
  now = bytes_after h clock;
  images = IsImage h clock;
  since = IsLeftSince h clock;
  clock = clock;
  failures = failures;
  honest = Unit {0};
  unsure = λ i. ⊥;
}

-- The invariant of a disk in memory: each write and sync was made before this moment.
pub record IsKept (h : History) (clock failures : ℕ) : Type 0 where
  pub made : All (λ w. w.moment < clock) h.writes
  pub synced : All (λ sync. sync < clock) h.syncs
  pub failures_fit : failures ≤ clock
  pub clock_fits : clock < 2 ^ 64
  pub size_fits : length h.first < 2 ^ 64

-- Such a state is the state of a disk.
pub is_memory_disk : (h : History) (clock failures : ℕ)
    → IsKept h clock failures → IsDisk (memory_state h clock failures)
is_memory_disk h clock failures kept =
    let byte = byte_after Take h clock in
    let size = length-map-range_with_len byte 0 (length h.first) in
    record {
      size_fits = kept.size_fits;
      clock_fits = kept.clock_fits;
      failures_fit = kept.failures_fit;
      size_now = λ honest. size;
      size_image = λ honest x is. is.size;
      now_is_image = λ honest. record {
        size = size;
        bytes = λ i below synced.
            get_or-map-range_with_len byte 0 (length h.first) i i 0 (omega (arith, size))
            (omega arith);
      };
      size_since = λ honest t x left. left.3.size;
      counts_now = λ t x early is. (clock, early, omega arith, is);
      only_now = λ x left.
          let now : left.0 ≡ clock = omega (arith, left.1, left.2) in
          subst (λ m. IsImage h m x) now left.3;
      earlier = λ t u x before within left. (left.0, omega (arith, before, left.1), left.2, left.3);
    }
