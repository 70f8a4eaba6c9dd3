-- Searches among numbers.
use Rattle.std.specs.Prelude.{ℕ, zero, suc, ◌+◌, max, Bool, if◌then◌else◌}

-- The greatest of these numbers, at the places below this one; at least 1.
abbrev pub greatest_below : (ℕ → ℕ) → ℕ → ℕ
greatest_below number zero = 1
greatest_below number (suc n) = max (greatest_below number n) (number n)

-- The first number from k on that passes the test. At most this many numbers are tried. If none of
-- them passes, the result is the number after them.
abbrev pub first_from : (ℕ → Bool) → (k most : ℕ) → ℕ
first_from test k zero = k
first_from test k (suc most) = if test k then k else first_from test (k + 1) most
