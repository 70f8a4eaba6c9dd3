-- What a disk in memory keeps of its calls, and the bytes that a crash leaves of it.
--
-- A moment is the number of calls that were made before it.
use Rattle.std.specs.Prelude.{◌≡◌, ◌<◌, ◌≤◌, ◌+◌, ◌-◌, ◌&&◌, ℕ, Bool, false, not, List, [], ◌∷◌}
use Rattle.std.specs.Prelude.{Option, None, length, get_or, take, replicate, slice_get, nat_lt}
use Rattle.std.specs.Prelude.{nat_le, if◌then◌else◌, unwrap_or, map}
use Rattle.std.specs.Option.{option_or}
use Rattle.std.specs.List.{list_any, range_with_len}
use Rattle.run_disk.specs.Writes.{Write, History}
use Rattle.run_disk.specs.declared.tears.Torn.{Torn}
use Rattle.run_disk.specs.declared.tears.Torn.TheVariants.{Keep, Take, Fill, Prefix}

-- A sync was made after this moment, among the first k calls.
abbrev pub is_synced : List ℕ → ℕ → ℕ → Bool
is_synced syncs k moment = list_any (λ sync. nat_lt moment sync && nat_lt sync k) syncs

-- These bytes of a torn write are left: none of them, all of them, one value in the place of each,
-- or a prefix.
abbrev pub torn_bytes : Torn → List ℕ → List ℕ
torn_bytes Keep bytes = []
torn_bytes Take bytes = bytes
torn_bytes (Fill value) bytes = replicate (length bytes) value
torn_bytes (Prefix n) bytes = take n bytes

-- After the first k calls these bytes of a write are left: none if the write comes later, all if a
-- sync followed it, and otherwise those that the tearing leaves.
abbrev pub left_of : Torn → List ℕ → ℕ → Write → List ℕ
left_of torn syncs k w =
    if nat_lt w.moment k
    then (if is_synced syncs k w.moment then w.bytes else torn_bytes torn w.bytes)
    else []

-- The byte at a place after these bytes were put in from `at` on; none if they don't reach the
-- place.
abbrev pub byte_put : ℕ → List ℕ → ℕ → Option ℕ
byte_put at bytes i = if nat_le at i then slice_get bytes (i - at) else None

-- These bytes, which begin at `at`, were put over a window of the disk, which begins at `from`.
-- Where they reach the window, it has these bytes, and everywhere else its old ones.
pub record PutsOver (from at : ℕ) (put old new : List ℕ) : Type 0 where
  pub size : length new ≡ length old
  pub bytes : (i : ℕ) → i < length old
      → get_or new i 0 ≡ unwrap_or (byte_put at put (from + i)) (get_or old i 0)

-- The byte that the newest of these writes leaves at a place, of those that leave one there.
abbrev pub newest : (Write → List ℕ) → List Write → ℕ → Option ℕ
newest left [] i = None
newest left (w ∷ ws) i = option_or (newest left ws i) (byte_put w.at (left w) i)

-- The byte of a place after the first k calls, with each unsynced write torn this way.
abbrev pub byte_after : Torn → History → ℕ → ℕ → ℕ
byte_after torn h k i =
    unwrap_or (newest (left_of torn h.syncs k) h.writes i) (get_or h.first i 0)

-- What reads return after the first k calls: the byte at each place of the disk.
abbrev pub bytes_after : History → ℕ → List ℕ
bytes_after h k = map (byte_after Take h k) (range_with_len 0 (length h.first))

-- These are the bytes after the first k calls, with each unsynced write torn this way.
pub record IsTornImage (torn : Torn) (h : History) (k : ℕ) (x : List ℕ) : Type 0 where
  pub size : length x ≡ length h.first
  pub bytes : (i : ℕ) → i < length x → get_or x i 0 ≡ byte_after torn h k i

-- A write covers a place.
abbrev pub covers : ℕ → Write → Bool
covers i w = nat_le w.at i && nat_lt i (w.at + length w.bytes)

-- One of the first k calls is a write that covers this place, and no sync among them followed it.
abbrev pub is_unsynced : History → ℕ → ℕ → Bool
is_unsynced h k i =
    list_any (λ w. nat_lt w.moment k && (not (is_synced h.syncs k w.moment) && covers i w)) h.writes

-- A crash after the first k calls may leave these bytes: anything at the places that an unsynced
-- write covers, and at all others what reads returned.
pub record IsImage (h : History) (k : ℕ) (x : List ℕ) : Type 0 where
  pub size : length x ≡ length h.first
  pub bytes : (i : ℕ) → i < length x → is_unsynced h k i ≡ false
      → get_or x i 0 ≡ byte_after Take h k i

-- A crash at some moment from t to k may have left these bytes.
abbrev pub IsLeftSince : History → ℕ → ℕ → List ℕ → Type 0
IsLeftSince h k t x = (m : ℕ) × (t ≤ m) × (m ≤ k) × IsImage h m x
