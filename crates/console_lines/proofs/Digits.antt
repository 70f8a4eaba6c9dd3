-- The length of a printed moment.
use Rattle.std.specs.Prelude.{◌<◌, ◌≤◌, ◌^◌, ℕ, length}
use Rattle.std.specs.Fmt.{decimal}
use Rattle.std.proofs.Common.{arith}
use Rattle.std.proofs.lemmas.Fmt.{length-decimal-le}

-- A moment has at most 12 digits.
pub moment_digits : (n : ℕ) → n < 10 ^ 12 → length (decimal n) ≤ 12
moment_digits n h = length-decimal-le 12 n (omega arith) h (omega (arith, h))

-- A count of two bytes has at most 5 digits.
pub count_digits : (n : ℕ) → n < 65536 → length (decimal n) ≤ 5
count_digits n h = length-decimal-le 5 n (omega arith) (omega (arith, h)) (omega (arith, h))
