-- Bytes written into a slice.
use Rattle.std.specs.Prelude.{ℕ, ◌+◌, List, ◌++◌, length, take, drop}

-- The slice after these bytes were written at a place.
unfoldable pub put_at : List ℕ → ℕ → List ℕ → List ℕ
put_at old at bytes = take at old ++ bytes ++ drop (at + length bytes) old
