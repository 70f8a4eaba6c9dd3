-- Numbers in a line.
use Rattle.std.specs.Prelude.{ℕ, Bool, ◌&&◌, nat_le, if◌then◌else◌, List, length}
use Rattle.std.specs.Prelude.{Option, Some, None}
use Rattle.std.specs.Char.{is_ascii_digit}
use Rattle.std.specs.List.{list_all}
use Rattle.std.specs.Str.Parse.{digits_value}
use Rattle.console_lines.specs.declared.numbers.TheConstants.{LONGEST_NUMBER}

-- A number has 1 to 12 digits.
unfoldable pub is_number : List ℕ → Bool
is_number word =
    nat_le 1 (length word) && nat_le (length word) LONGEST_NUMBER && list_all is_ascii_digit word

-- The number that a word stands for.
abbrev pub number_of : List ℕ → Option ℕ
number_of word = if is_number word then Some (digits_value 10 word) else None
