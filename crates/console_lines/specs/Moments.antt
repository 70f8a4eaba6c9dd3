-- Moments in a line.
use Rattle.std.specs.Prelude.{ℕ, ℤ, pos, negsuc, int_div, nat_le, Bool, not, ◌&&◌, ◌||◌}
use Rattle.std.specs.Prelude.{if◌then◌else◌, List, take, drop, slice_range, codes}
use Rattle.std.specs.Prelude.{Option, Some, None, Result, Ok, Err}
use Rattle.std.specs.Option.{option_map, option_map_or}
use Rattle.std.specs.Str.{bytes_eq}
use Rattle.jiff.specs.Words.{parse_timestamp}
use Rattle.run_model.specs.declared.bounds.TheConstants.{GREATEST_MOMENT}
use Rattle.run_model.specs.declared.refusals.Refusal.{Refusal}
use Rattle.run_model.specs.declared.refusals.Refusal.TheVariants as refusal
use Rattle.console_lines.specs.Numbers.{number_of}
use Rattle.console_lines.specs.Shapes.{has_shape, is_in}

-- A date and a time of day: the month is 1 to 12, the day 1 to 31, the hour 0 to 23, and the minute
-- and the second 0 to 59.
unfoldable pub is_local : List ℕ → Bool
is_local bytes =
    has_shape (codes "dddd-dd-ddTdd:dd:dd") bytes
    && is_in 1 12 (slice_range bytes 5 7)
    && is_in 1 31 (slice_range bytes 8 10)
    && is_in 0 23 (slice_range bytes 11 13)
    && is_in 0 59 (slice_range bytes 14 16)
    && is_in 0 59 (slice_range bytes 17 19)

-- An offset is `Z`, or hours 0 to 23 and minutes 0 to 59 after a sign.
unfoldable pub is_offset : List ℕ → Bool
is_offset bytes =
    bytes_eq bytes (codes "Z")
    || ((has_shape (codes "+dd:dd") bytes || has_shape (codes "-dd:dd") bytes)
    && is_in 0 23 (slice_range bytes 1 3)
    && is_in 0 59 (slice_range bytes 4 6))

-- A date and time: its first 19 bytes are a date and a time of day, and its offset follows them.
unfoldable pub is_date_time : List ℕ → Bool
is_date_time word = is_local (take 19 word) && is_offset (drop 19 word)

-- The whole seconds of an instant, if there is one. The instant is given in nanoseconds.
abbrev pub seconds_of : {E : Type 0} → Result ℤ E → Option ℤ
seconds_of (Ok instant) = Some (int_div instant (pos 1_000_000_000))
seconds_of (Err why) = None

-- The instant of a date and time, as jiff states it. jiff may refuse one, such as a day that its
-- month doesn't have.
abbrev pub instant_of : List ℕ → Option ℤ
instant_of word = seconds_of (parse_timestamp word)

-- The moment at this many seconds since 1970-01-01T00:00:00Z, if that is a moment.
unfoldable pub moment_at : ℤ → Result ℕ Refusal
moment_at (pos seconds) =
    if nat_le seconds GREATEST_MOMENT then Ok seconds else Err refusal.MomentOutOfRange
moment_at (negsuc n) = Err refusal.MomentOutOfRange

-- The moment of a date and time. A year outside 1969 to 9987 is out of range, whatever follows it.
-- A word of another form, and one that jiff refuses, has no moment.
unfoldable pub date_time_of : List ℕ → Option (Result ℕ Refusal)
date_time_of word =
    if not (is_date_time word) then None
    else if not (is_in 1969 9987 (take 4 word)) then Some (Err refusal.MomentOutOfRange)
    else option_map moment_at (instant_of word)

-- The moment that a word stands for. A number is a number of seconds. Any other word has to be a
-- date and time.
abbrev pub moment_of : List ℕ → Option (Result ℕ Refusal)
moment_of word =
    option_map_or (λ seconds. Some (moment_at (pos seconds))) (number_of word) (date_time_of word)
