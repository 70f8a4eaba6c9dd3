-- The digits of a number, one after another.
use Rattle.std.proofs.Common.{◌≡◌, ℕ, ◌+◌, ◌*◌, ◌-◌, ◌^◌, ◌<◌, ◌≤◌, true, List, length, take}
use Rattle.std.proofs.Common.{get_or, arith, ◌∙◌, ap, add-one}
use Rattle.std.specs.Char.{is_ascii_digit, digit_value}
use Rattle.std.specs.List.{list_all}
use Rattle.std.specs.Str.Parse.{digits_value}
use Rattle.std.proofs.Math.Nat.{pow-le-pow_right, pow-suc}
use Rattle.std.proofs.lemmas.Bool.Decides.{nat_tests}
use Rattle.std.proofs.lemmas.Grind.{common_steps}
use Rattle.std.proofs.lemmas.Int.Digits.{digits_value_more}
use Rattle.std.proofs.lemmas.List.Sums.{AllPass-from_list_all}

-- A number with up to twelve digits is below this bound.
pub tens : (i : ℕ) → i ≤ 12 → 10 ^ i ≤ 1_000_000_000_000
tens i h = pow-le-pow_right {n = 10} (omega arith) {i = i} {j = 12} h

-- A digit is a byte from 48 to 57.
pub digit_at :
    (word : List ℕ) (i : ℕ)
    → list_all is_ascii_digit word ≡ true
    → i < length word
    → (48 ≤ get_or word i 0) × (get_or word i 0 ≤ 57)
digit_at word i all h =
    let here : is_ascii_digit (get_or word i 0) ≡ true =
    AllPass-from_list_all is_ascii_digit word all i 0 h in
    (grind (arith, nat_tests, common_steps), grind (arith, nat_tests, common_steps))

digit_value_is : (b : ℕ) → 48 ≤ b → b ≤ 57 → digit_value b ≡ b - 48
digit_value_is b low high = grind (arith, nat_tests, common_steps)

-- The number with one more digit.
pub digits_more :
    (word : List ℕ) (i : ℕ)
    → list_all is_ascii_digit word ≡ true
    → i < length word
    → digits_value 10 (take (i + 1) word)
    ≡ digits_value 10 (take i word) * 10 + (get_or word i 0 - 48)
digits_more word i all h =
    let at = digit_at word i all h in
    digits_value_more 10 word i h
    ∙ ap (λ d. digits_value 10 (take i word) * 10 + d) (digit_value_is _ at.0 at.1)

pow_more : (i : ℕ) → 10 ^ (i + 1) ≡ 10 ^ i * 10
pow_more i = ap (λ n. 10 ^ n) (add-one i) ∙ pow-suc 10 i

-- One more digit keeps a number below the power of ten for its digits.
pub below_more :
    (v d i : ℕ) → v < 10 ^ i → d ≤ 9 → v * 10 + d < 10 ^ (i + 1)
below_more v d i h low = omega (arith, pow_more i)

-- A number with this many digits is below the limit.
pub below_limit : (v i : ℕ) → v < 10 ^ i → i ≤ 12 → v < 1_000_000_000_000
below_limit v i h few = omega (arith, tens i few)
