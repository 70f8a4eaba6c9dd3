-- A disk over a file, as contracts see it: its size and its two counts, and nothing of its bytes.
use Rattle.std.specs.Prelude.{◌≤◌, ◌<◌, ◌^◌, ℕ, []}
use Rattle.run_disk.specs.Disk.{DiskState, IsDisk}

-- The state of a disk over a file. It isn't honest, so nothing is said about its bytes.
abbrev pub file_state : ℕ → ℕ → ℕ → DiskState
file_state size calls failures = record {
  size = size;
  now = [];
  images = λ x. Unit {0};
  since = λ t x. Unit {0};
  clock = calls;
  failures = failures;
  honest = ⊥;
  unsure = λ i. Unit {0};
}

-- The invariant of a disk over a file: its counts fit.
pub record IsFileDisk (size calls failures : ℕ) : Type 0 where
  pub size_fits : size < 2 ^ 64
  pub calls_fit : calls < 2 ^ 64
  pub failures_fit : failures ≤ calls

-- Such a state is the state of a disk.
pub is_file_disk : (size calls failures : ℕ) → IsFileDisk size calls failures
    → IsDisk (file_state size calls failures)
is_file_disk size calls failures kept = record {
  size_fits = kept.size_fits;
  clock_fits = kept.calls_fit;
  failures_fit = kept.failures_fit;
  size_now = λ honest. absurd honest;
  size_image = λ honest. absurd honest;
  now_is_image = λ honest. absurd honest;
  size_since = λ honest. absurd honest;
  counts_now = λ t x early is. tt;
  only_now = λ x left. tt;
  earlier = λ t u x before within left. tt;
}
