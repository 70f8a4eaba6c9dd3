-- The shape of a word.
use Rattle.std.specs.Prelude.{ℕ, ◌==◌, nat_le, Bool, false, ◌&&◌, if◌then◌else◌, List, length}
use Rattle.std.specs.Prelude.{Option, Some, None}
use Rattle.std.specs.Char.{is_ascii_digit}
use Rattle.std.specs.List.{list_all, zip}
use Rattle.console_lines.specs.Numbers.{number_of}

-- A byte fits a byte of a shape: it is a digit if that is a `d`, and otherwise the same byte.
abbrev pub is_like : ℕ → ℕ → Bool
is_like shape byte = if shape == 100 then is_ascii_digit byte else byte == shape

-- A word has a shape if both have the same length, and each byte of the word fits that of the
-- shape.
unfoldable pub has_shape : List ℕ → List ℕ → Bool
has_shape shape word =
    length shape == length word && list_all (λ pair. is_like pair.0 pair.1) (zip shape word)

-- A number is in a range, which includes both ends.
abbrev pub lies_in : ℕ → ℕ → Option ℕ → Bool
lies_in low high None = false
lies_in low high (Some number) = nat_le low number && nat_le number high

-- A part of a word stands for a number in this range.
unfoldable pub is_in : ℕ → ℕ → List ℕ → Bool
is_in low high part = lies_in low high (number_of part)
