-- A disk over an open file, as contracts see it.
use Rattle.std.specs.Prelude.{◌≡◌, ◌⊎◌, ◌≤◌, ◌<◌, ◌+◌, ◌^◌, ℕ, List, drop, length}
use Rattle.std.proofs.Common.{arith, inl, inr, refl, ◌∙◌}
use Rattle.file_calls.specs.declared.places.Place.TheVariants.{Durable, Lost}
use Rattle.file_calls.specs.OpenFiles.{FileState, MayLeave}
use Rattle.run_disk.specs.Disk.{DiskState, IsDisk}
use Rattle.file_disk.specs.Left.{HasLeft, left_of_more, none_left}

-- A disk is honest if its file keeps its clauses (Keeps), if nothing of the file was lost when the
-- disk was made, and if a crash then left its size.
pub record IsHonest (Keeps : Type 0) (made : FileState) : Type 0 where
  pub keeps : Keeps
  pub whole : (i : ℕ) → made.place i ≡ Lost → ⊥
  pub sized : made.end ≡ Durable

-- This is so if the disk is honest. Of a disk that isn't, anything may be so.
abbrev pub IfHonest : (Honest Fact : Type 0) → Type 0
IfHonest Honest Fact = (Honest → ⊥) ⊎ (Honest × Fact)

-- A crash since some moment may have left these bytes: in the state now, or in one of these earlier
-- ones.
abbrev pub IsLeft : FileState → List FileState → List ℕ → Type 0
IsLeft now earlier x = MayLeave now x ⊎ HasLeft earlier x

-- The state of a disk over a file that had `first` calls when the disk was made.
abbrev pub disk_state : (Keeps : Type 0) (made now : FileState) (first : ℕ) (past : List FileState)
    (size calls failures : ℕ) → DiskState
disk_state Keeps made now first past size calls failures = record {
  size = size;
  now = now.now;
  images = λ x. IfHonest (IsHonest Keeps made) (MayLeave now x);
  since = λ t x. IfHonest (IsHonest Keeps made) (IsLeft now (drop (first + t) past) x);
  clock = calls;
  failures = failures;
  honest = IsHonest Keeps made;
  unsure = λ i. ⊥;
}

-- The invariant of such a disk: its counts fit, and if it is honest, the file has its size, each
-- call of it was one of the disk, and nothing of it is lost until a call fails.
pub record IsKept (Keeps : Type 0) (made now : FileState) (first : ℕ) (past : List FileState)
    (size calls failures : ℕ) : Type 0 where
  pub size_fits : size < 2 ^ 64
  pub calls_fit : calls < 2 ^ 64
  pub failures_fit : failures ≤ calls
  pub sized : IsHonest Keeps made → length now.now ≡ size
  pub ended : IsHonest Keeps made → now.end ≡ Durable
  pub whole : IsHonest Keeps made → failures ≡ 0 → (i : ℕ) → now.place i ≡ Lost → ⊥
  pub later : IsHonest Keeps made → length past ≤ first + calls
  pub counted : IsHonest Keeps made → failures ≡ 0 → length past ≡ first + calls
  pub left : IsHonest Keeps made → (x : List ℕ) → HasLeft (drop first past) x → length x ≡ size

-- Whatever a crash now may leave of an honest disk has its size.
size_of_image : (Honest : Type 0) (now : FileState) (size : ℕ)
    → now.end ≡ Durable → length now.now ≡ size → Honest
    → (x : List ℕ) → IfHonest Honest (MayLeave now x) → length x ≡ size
size_of_image Honest now size ended sized honest x (inl bare) = absurd (bare honest)
size_of_image Honest now size ended sized honest x (inr here) = here.1.size ended ∙ sized

-- The same of whatever a crash since the disk was made may have left.
size_of_left : (Honest : Type 0) (now : FileState) (first t size : ℕ) (past : List FileState)
    → now.end ≡ Durable → length now.now ≡ size
    → ((x : List ℕ) → HasLeft (drop first past) x → length x ≡ size) → Honest
    → (x : List ℕ) → IfHonest Honest (IsLeft now (drop (first + t) past) x) → length x ≡ size
size_of_left Honest now first t size past ended sized left honest x (inl bare) =
    absurd (bare honest)
size_of_left Honest now first t size past ended sized left honest x (inr (is, inl may)) =
    may.size ended ∙ sized
size_of_left Honest now first t size past ended sized left honest x (inr (is, inr before)) =
    left x (left_of_more first (first + t) past x (omega arith) before)

-- This moment counts for each moment before it.
counts_now : (Honest : Type 0) (now : FileState) (earlier : List FileState) (x : List ℕ)
    → IfHonest Honest (MayLeave now x) → IfHonest Honest (IsLeft now earlier x)
counts_now Honest now earlier x (inl bare) = inl bare
counts_now Honest now earlier x (inr here) = inr (here.0, inl here.1)

-- And there is no later one.
only_now : (Honest : Type 0) (now : FileState) (n : ℕ) (past : List FileState)
    → (Honest → length past ≤ n) → (x : List ℕ) → IfHonest Honest (IsLeft now (drop n past) x)
    → IfHonest Honest (MayLeave now x)
only_now Honest now n past later x (inl bare) = inl bare
only_now Honest now n past later x (inr (honest, inl may)) = inr (honest, may)
only_now Honest now n past later x (inr (honest, inr before)) =
    absurd (none_left n past x (later honest) before)

-- A moment before another one counts more moments.
counts_more : (Honest : Type 0) (now : FileState) (n m : ℕ) (past : List FileState) → n ≤ m
    → (x : List ℕ) → IfHonest Honest (IsLeft now (drop m past) x)
    → IfHonest Honest (IsLeft now (drop n past) x)
counts_more Honest now n m past before x (inl bare) = inl bare
counts_more Honest now n m past before x (inr (honest, inl may)) = inr (honest, inl may)
counts_more Honest now n m past before x (inr (honest, inr left)) =
    inr (honest, inr (left_of_more n m past x before left))

-- Such a state is the state of a disk.
pub is_file_disk : (Keeps : Type 0) (made now : FileState) (first : ℕ) (past : List FileState)
    (size calls failures : ℕ) → IsKept Keeps made now first past size calls failures
    → IsDisk (disk_state Keeps made now first past size calls failures)
is_file_disk Keeps made now first past size calls failures kept =
    let Honest = IsHonest Keeps made in
    record {
      size_fits = kept.size_fits;
      clock_fits = kept.calls_fit;
      failures_fit = kept.failures_fit;
      size_now = kept.sized;
      size_image = λ honest.
          size_of_image Honest now size (kept.ended honest) (kept.sized honest) honest;
      now_is_image = λ honest.
          inr (honest, record { bytes = λ i durable. refl; size = λ durable. refl });
      size_since = λ honest t.
          size_of_left Honest now first t size past (kept.ended honest) (kept.sized honest)
          (kept.left honest) honest;
      counts_now = λ t x early. counts_now Honest now (drop (first + t) past) x;
      only_now = only_now Honest now (first + calls) past kept.later;
      earlier = λ t u x before within.
          counts_more Honest now (first + t) (first + u) past (omega (arith, before)) x;
    }
