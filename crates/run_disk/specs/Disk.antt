-- A disk at one moment: what reads return, and what a crash may leave or may have left.
use Rattle.std.specs.Prelude.{◌≡◌, ◌<◌, ◌≤◌, ◌-◌, ◌^◌, ℕ, List, length, get_or}

-- What contracts see of a disk.
pub record DiskState : Type 1 where
  -- the number of its bytes
  pub size : ℕ
  -- the bytes that reads return
  pub now : List ℕ
  -- the contents that a crash now may leave
  pub images : List ℕ → Type 0
  -- the contents that a crash at any moment since this one may have left, also during a call
  pub since : ℕ → List ℕ → Type 0
  -- the moment: the number of reads, writes and syncs so far
  pub clock : ℕ
  -- how many of them failed
  pub failures : ℕ
  -- whether it keeps the promises about its bytes
  pub honest : Type 0
  -- the places of failed writes that weren't written again
  pub unsure : ℕ → Type 0

-- The last moment. A disk that has reached it is spent, and each further call fails.
abbrev pub last_moment : ℕ
last_moment = 2 ^ 64 - 1

-- What is true of every disk at every moment.
pub record IsDisk (s : DiskState) : Type 0 where
  pub size_fits : s.size < 2 ^ 64
  pub clock_fits : s.clock < 2 ^ 64
  pub failures_fit : s.failures ≤ s.clock
  -- of an honest disk: all contents have its size, and a crash may leave what reads return
  pub size_now : s.honest → length s.now ≡ s.size
  pub size_image : s.honest → (x : List ℕ) → s.images x → length x ≡ s.size
  pub now_is_image : s.honest → s.images s.now
  -- what a crash since any moment may have left has that size, too
  pub size_since : s.honest → (t : ℕ) (x : List ℕ) → s.since t x → length x ≡ s.size
  -- the moments since an earlier one include this moment, and there is no later one yet
  pub counts_now : (t : ℕ) (x : List ℕ) → t ≤ s.clock → s.images x → s.since t x
  pub only_now : (x : List ℕ) → s.since s.clock x → s.images x
  -- whatever a crash since moment u may have left, a crash since an earlier moment t may have left
  pub earlier :
      (t u : ℕ) (x : List ℕ) → t ≤ u → u ≤ s.clock → s.since u x → s.since t x

-- The disk is synced: whatever a crash now leaves, each place holds the byte that reads return
-- there, except for the places of failed writes that weren't written again.
pub record IsSynced (s : DiskState) : Type 0 where
  pub only :
      (x : List ℕ) → s.images x → (i : ℕ) → (s.unsure i → ⊥) → get_or x i 0 ≡ get_or s.now i 0

-- The disk is at rest: a crash now leaves exactly the bytes that reads return, and each place of a
-- failed write was written again.
pub record IsAtRest (s : DiskState) : Type 0 where
  pub only : (x : List ℕ) → s.images x → x ≡ s.now
  pub sure : (i : ℕ) → s.unsure i → ⊥

-- The disk begins with these bytes: it is honest and at rest, reads return the bytes, and no call
-- has been counted.
pub record Begins (bytes : List ℕ) (s : DiskState) : Type 0 where
  pub honest : s.honest
  pub rest : IsAtRest s
  pub now : s.now ≡ bytes
  pub size : s.size ≡ length bytes
  pub clock : s.clock ≡ 0
  pub failures : s.failures ≡ 0

-- Nothing has changed: reads return the same bytes, both counts are the same, a crash can leave
-- nothing else than before, and no further place is unsure.
pub record IsSame (old new : DiskState) : Type 0 where
  pub now : new.now ≡ old.now
  pub images : (x : List ℕ) → new.images x → old.images x
  pub since : (t : ℕ) (x : List ℕ) → new.since t x → old.since t x
  pub clock : new.clock ≡ old.clock
  pub failures : new.failures ≡ old.failures
  pub unsure : (i : ℕ) → new.unsure i → old.unsure i
