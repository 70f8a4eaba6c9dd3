-- What a disk in memory keeps of its calls.
use Rattle.std.specs.Prelude.{ℕ, ◌-◌, List, [], ◌∷◌, ◌++◌, length, replicate, take}

-- A write that succeeded: its moment, which is the number of calls that were made before it, its
-- place and its bytes.
pub record Write : Type 0 where
  pub moment : ℕ
  pub at : ℕ
  pub bytes : List ℕ

-- The bytes that a disk began with, the writes that succeeded, oldest first, and the moments of the
-- syncs that did.
pub record History : Type 0 where
  pub first : List ℕ
  pub writes : List Write
  pub syncs : List ℕ

-- The first of these bytes, as many as asked for, with zeros after them if there are fewer.
abbrev pub filled_up : ℕ → List ℕ → List ℕ
filled_up size bytes = take size bytes ++ replicate (size - length bytes) 0

-- The history of a disk with these bytes before its first call.
abbrev pub beginning : List ℕ → History
beginning bytes = record { first = bytes; writes = []; syncs = [] }

-- The history with one more write.
abbrev pub and_write : History → Write → History
and_write h w = record { first = h.first; writes = h.writes ++ w ∷ []; syncs = h.syncs }

-- The history with one more sync.
abbrev pub and_sync : History → ℕ → History
and_sync h moment = record { first = h.first; writes = h.writes; syncs = h.syncs ++ moment ∷ [] }
