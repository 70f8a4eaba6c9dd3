-- The digits of a number, and what they are read as.
use Rattle.std.specs.Prelude.{◌≡◌, ◌<◌, ◌^◌, true, ℕ, List, [], ◌∷◌, Some, None}
use Rattle.std.specs.Char.{is_ascii_digit}
use Rattle.std.specs.Fmt.{decimal}
use Rattle.std.specs.List.{list_all}
use Rattle.std.specs.Str.Parse.{AllDigits}
use Rattle.std.proofs.Common.{arith, refl, sym, ◌∙◌, ap}
use Rattle.std.proofs.lemmas.Bool.Decides.{nat_tests}
use Rattle.std.proofs.lemmas.Fmt.{decimal_is_IsNumeral}
use Rattle.std.proofs.lemmas.Str.Parse.{digit_from_value}
use Rattle.console_lines.proofs.Digits.{moment_digits}
use Rattle.console_lines.specs.Numbers.{is_number, number_of}

pub are_digits : (digits : List ℕ) → AllDigits 10 digits → list_all is_ascii_digit digits ≡ true
are_digits [] h = refl
are_digits (c ∷ digits) h =
    grind (arith, nat_tests, digit_from_value c h.0, are_digits digits h.1)

-- What is written of a number is read back.
pub written : (n : ℕ) → n < 10 ^ 12 → number_of (decimal n) ≡ Some n
unfolding is_number
written n h =
    let d = decimal_is_IsNumeral n (omega (arith, h)) in
    grind (
      arith,
      nat_tests,
      d.0.0,
      d.1,
      moment_digits n h,
      are_digits (decimal n) d.0.1,
    )

-- So a word that is read as no number isn't written of one.
pub unread : (n : ℕ) (word : List ℕ) → n < 10 ^ 12 → decimal n ≡ word → None ≡ number_of word → ⊥
unread n word h is none =
    let bad : None ≡ Some n = none ∙ sym (ap number_of is) ∙ written n h in
    cc

-- And one that is read as another number isn't, either.
pub misread : (n m : ℕ) (word : List ℕ) → n < 10 ^ 12 → decimal n ≡ word
    → Some m ≡ number_of word → n ≡ m
misread n m word h is read =
    let same : Some m ≡ Some n = read ∙ sym (ap number_of is) ∙ written n h in
    cc
