-- A line that cancels a scope.
use Rattle.std.specs.Prelude.{ℕ, nat_lt, if◌then◌else◌, List, ◌∷◌, length, codes}
use Rattle.std.specs.Prelude.{Option, Some, None}
use Rattle.std.specs.Str.{bytes_eq}
use Rattle.console_lines.specs.declared.lines.TheConstants.{LONGEST_LINE}
use Rattle.console_lines.specs.Words.{rest_of, words_of}

-- The words in the place of a scope's name and of a cause, if these are the words of a cancel.
abbrev pub cancelled_by : List (List ℕ) → Option (List ℕ × Option (List ℕ))
cancelled_by (first ∷ scope ∷ cause) =
    if bytes_eq first (codes "cancel") then Some (scope, rest_of cause) else None
cancelled_by _ = None

-- The same for a line.
abbrev pub cancel_words : List ℕ → Option (List ℕ × Option (List ℕ))
cancel_words line =
    if nat_lt LONGEST_LINE (length line) then None else cancelled_by (words_of line)
