-- A line that asks for the state of a scope.
use Rattle.std.specs.Prelude.{ℕ, if◌then◌else◌, List, take, drop, codes, Option, Some, None}
use Rattle.std.specs.Str.{bytes_eq}

-- What comes after `scope ` at the beginning of a line, if the line begins so.
abbrev pub scope_word : List ℕ → Option (List ℕ)
scope_word line = if bytes_eq (take 6 line) (codes "scope ") then Some (drop 6 line) else None
