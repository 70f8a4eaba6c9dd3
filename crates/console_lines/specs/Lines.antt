-- The lines of an input, split at each LF.
use Rattle.std.specs.Prelude.{ℕ, List, [], ◌∷◌, ◌++◌, ◌==◌, if◌then◌else◌}

-- The lines that an LF ends, if the bytes come after `begun`.
abbrev pub whole_lines : List ℕ → List ℕ → List (List ℕ)
whole_lines begun [] = []
whole_lines begun (b ∷ bytes) =
    if b == 10 then begun ∷ whole_lines [] bytes else whole_lines (begun ++ b ∷ []) bytes

-- The bytes after the last LF, if the bytes come after `begun`.
abbrev pub open_line : List ℕ → List ℕ → List ℕ
open_line begun [] = begun
open_line begun (b ∷ bytes) =
    if b == 10 then open_line [] bytes else open_line (begun ++ b ∷ []) bytes

-- The lines of a whole input: it is split at each LF, so the last one may be empty.
abbrev pub lines_of : List ℕ → List (List ℕ)
lines_of bytes = whole_lines [] bytes ++ open_line [] bytes ∷ []
