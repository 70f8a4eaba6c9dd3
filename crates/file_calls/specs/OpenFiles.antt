-- An open file, as contracts see it: what reads return, and what a crash may leave of its bytes.
use Rattle.std.specs.Prelude.{◌≡◌, ◌⊎◌, ◌≤◌, ◌+◌, ◌++◌, ◌∷◌, ◌&&◌, ℕ, Bool, false, List, []}
use Rattle.std.specs.Prelude.{Result, OnOk, OnErr, length, take, drop, slice_get, nat_le, nat_lt}
use Rattle.std.specs.Prelude.{if◌then◌else◌}
use Rattle.file_calls.specs.declared.places.Place.{Place}
use Rattle.file_calls.specs.declared.places.Place.TheVariants.{Durable, Dirty, Lost}

-- What contracts see of an open file.
pub record FileState : Type 0 where
  -- the bytes that reads return
  pub now : List ℕ
  -- what is known of each place, also of those behind the last byte
  pub place : ℕ → Place
  -- what is known of the end: of the number of bytes
  pub end : Place

-- A crash now may leave these bytes: at a durable place the byte that reads return there, or the
-- end of the file if they find it there; at any other place anything. If the end is durable, a
-- crash leaves as many bytes as reads return.
pub record MayLeave (s : FileState) (x : List ℕ) : Type 0 where
  pub bytes : (i : ℕ) → s.place i ≡ Durable → slice_get x i ≡ slice_get s.now i
  pub size : s.end ≡ Durable → length x ≡ length s.now

-- The file is at rest: each place is durable, and so is the end.
pub record IsAtRest (s : FileState) : Type 0 where
  pub place : (i : ℕ) → s.place i ≡ Durable
  pub end : s.end ≡ Durable

-- Nothing of a file is lost: no sync of it has failed, or what that sync should have written was
-- written and synced again.
pub record IsIntact (s : FileState) : Type 0 where
  pub place : (i : ℕ) → s.place i ≡ Lost → ⊥
  pub end : s.end ≡ Lost → ⊥

-- A place is one of the n places from `at` on.
abbrev pub is_within : (at n : ℕ) → ℕ → Bool
is_within at n i = nat_le at i && nat_lt i (at + n)

-- What is known of a place after a call that writes n places from `at` on: those are dirty, and
-- also those that were lost before.
abbrev pub written : (at n : ℕ) → ℕ → Place → Place
written at n i before = if is_within at n i then Dirty else before

-- What is known of the end after a call that writes n places from `at` on: it is dirty if they
-- reach behind the last byte.
abbrev pub grown : (at n size : ℕ) → Place → Place
grown at n size before = if nat_le (at + n) size then before else Dirty

-- What is known of a place, or of the end, after a sync, which makes `to` of the dirty ones. A lost
-- one stays lost.
abbrev pub settled : (to : Place) → Place → Place
settled to Durable = Durable
settled to Dirty = to
settled to Lost = Lost

-- The contents with these bytes put in from `at` on.
abbrev pub put_at : ℕ → List ℕ → List ℕ → List ℕ
put_at at bytes old = take at old ++ (bytes ++ drop (at + length bytes) old)

-- The file is as it was.
pub record IsSame (old new : FileState) : Type 0 where
  pub now : new.now ≡ old.now
  pub place : (i : ℕ) → new.place i ≡ old.place i
  pub end : new.end ≡ old.end

-- Any of these n places from `at` on may have changed, and each of them is dirty. The other places
-- are as they were.
pub record Spoils (at n : ℕ) (end : Place) (old new : FileState) : Type 0 where
  pub outside : (i : ℕ) → is_within at n i ≡ false → slice_get new.now i ≡ slice_get old.now i
  pub place : (i : ℕ) → new.place i ≡ written at n i (old.place i)
  -- what is known of the end then
  pub end_is : new.end ≡ end

-- The contents are these now: n places from `at` on were changed, and are dirty.
pub record Makes (contents : List ℕ) (at n : ℕ) (end : Place) (old new : FileState) : Type 0 where
  pub now : new.now ≡ contents
  pub place : (i : ℕ) → new.place i ≡ written at n i (old.place i)
  -- what is known of the end then
  pub end_is : new.end ≡ end

-- A write of these bytes from `at` on. At Err either nothing was done, or nobody knows how much of
-- them was written. The file has as many bytes as before, unless they reach behind its end.
pub record Writes {T E : Type 0} (at : ℕ) (bytes : List ℕ) (old new : FileState)
    (result : Result T E) : Type 0 where
  pub made : OnOk result (Makes (put_at at bytes old.now) at (length bytes)
      (grown at (length bytes) (length old.now) old.end) old new)
  pub failed : OnErr result (IsSame old new
      ⊎ Spoils at (length bytes) (grown at (length bytes) (length old.now) old.end) old new)
  pub size : at + length bytes ≤ length old.now → length new.now ≡ length old.now

-- A removal of all bytes. At Err either nothing was done, or nobody knows what is left.
pub record Empties {T E : Type 0} (old new : FileState) (result : Result T E) : Type 0 where
  pub made : OnOk result (Makes [] 0 (length old.now) Dirty old new)
  pub failed : OnErr result (IsSame old new ⊎ Spoils 0 (length old.now) Dirty old new)

-- A sync, which made `to` of each dirty place, and of a dirty end. Reads return the same bytes as
-- before.
pub record Settles (to : Place) (old new : FileState) : Type 0 where
  pub now : new.now ≡ old.now
  pub place : (i : ℕ) → new.place i ≡ settled to (old.place i)
  pub end : new.end ≡ settled to old.end

-- A call was made: the past of the file has one more state, the one before the call. A crash during
-- the call leaves what it may leave of that state, or of the one after the call.
abbrev pub IsNext : FileState → (was is : List FileState) → Type 0
IsNext old was is = is ≡ was ++ old ∷ []

-- The past of a file goes on. A call that failed may not have been made at all: then the file and
-- its past are as they were.
pub record GoesOn {T E : Type 0} (old new : FileState) (was is : List FileState)
    (result : Result T E) : Type 0 where
  pub made : OnOk result (IsNext old was is)
  pub failed : OnErr result (IsNext old was is ⊎ (IsSame old new × (is ≡ was)))
