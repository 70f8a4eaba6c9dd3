-- Locks of files, as contracts see them.
use Rattle.std.specs.Prelude.{◌≡◌, ◌&&◌, ◌||◌, ◌++◌, ◌∷◌, [], ℕ, Bool, true, false, not, List}
use Rattle.std.specs.Prelude.{fold, nat_eq, if◌then◌else◌}
use Rattle.std.specs.List.{filter, list_any}
use Rattle.file_calls.specs.declared.locks.Lock.{Lock}

-- A lock can't be taken while this other one is held: both are on the same file, and one of them
-- excludes all others.
abbrev pub excludes : Lock → (held : Lock) → Bool
excludes lock held = nat_eq held.file lock.file && (lock.is_alone || held.is_alone)

-- The lock was free, and is held now.
pub record Takes (lock : Lock) (old new : List Lock) : Type 0 where
  pub free : list_any (excludes lock) old ≡ false
  pub held : new ≡ old ++ lock ∷ []

-- Another lock that is held excludes this one, and nothing has changed.
pub record IsBusy (lock : Lock) (old new : List Lock) : Type 0 where
  pub taken : list_any (excludes lock) old ≡ true
  pub same : new ≡ old

-- The locks of all other openings.
abbrev pub without : (holder : ℕ) → List Lock → List Lock
without holder held = filter (λ lock. not (nat_eq lock.holder holder)) held

-- A call on a lock.
pub data LockCall : Type 0 where
  -- this lock is asked for
  Ask : Lock → LockCall
  -- this opening is closed
  Close : (holder : ℕ) → LockCall

-- The locks that are held after a call. A lock is taken unless another one excludes it.
abbrev pub held_by : List Lock → LockCall → List Lock
held_by held (Ask lock) = if list_any (excludes lock) held then held else held ++ lock ∷ []
held_by held (Close holder) = without holder held

-- The locks that are held after these calls. Before the first one nobody holds a lock.
abbrev pub held_after : List LockCall → List Lock
held_after calls = fold held_by [] calls
