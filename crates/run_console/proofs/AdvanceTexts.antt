-- What an advance that is put before a line asks for.
use Rattle.std.specs.Prelude.{◌≡◌, ◌==◌, ◌≤◌, ◌<◌, ◌-◌, true, false, pos, codes}
use Rattle.std.specs.Prelude.{ℕ, List, [], ◌∷◌, ◌++◌, length, take, position, Some, Ok, unwrap_or}
use Rattle.std.specs.Option.{option_map, option_map_or}
use Rattle.std.specs.Char.{is_ascii_digit}
use Rattle.std.specs.Fmt.{decimal}
use Rattle.std.specs.List.{All, list_all}
use Rattle.std.specs.Int.{IsInRange}
use Rattle.std.specs.Str.Parse.{AllDigits}
use Rattle.std.proofs.Common.{get_or, arith, refl, ap, ◌∙◌, length-append}
use Rattle.std.proofs.lemmas.Bool.Decides.{nat_tests}
use Rattle.std.proofs.lemmas.Fmt.{decimal_is_IsNumeral}
use Rattle.std.proofs.lemmas.Grind.{common_steps}
use Rattle.std.proofs.lemmas.List.{get_or_default, take_all}
use Rattle.std.proofs.lemmas.List.Splits.{slice_split_none}
use Rattle.std.proofs.lemmas.Str.Parse.{digit_at, digit_from_value}
use Rattle.run_model.specs.declared.bounds.TheConstants.{GREATEST_MOMENT}
use Rattle.run_model.specs.declared.commands.Command.TheVariants as command
use Rattle.run_model.specs.declared.commands.Step.TheVariants as step
use Rattle.console_lines.specs.declared.line_requests.LineRequest.TheVariants as asked
use Rattle.console_lines.specs.LineRequests.{asked_by, request_of, asks_advance}
use Rattle.console_lines.specs.Words.{words_of}
use Rattle.console_lines.proofs.Digits.{moment_digits}
use Rattle.console_lines.proofs.WordLemmas.{words_at_space}
use Rattle.console_lines.specs.Moments.{date_time_of, moment_at, moment_of}
use Rattle.console_lines.specs.Numbers.{is_number, number_of}
use Rattle.run_console.specs.Timed.{advance_line}

-- ---- digits

no_space : (c x : ℕ) → c ≡ x → IsInRange 48 57 x → (c == 32) ≡ false
no_space c x e h = grind (arith, nat_tests, e, h)

no_spaces : (digits : List ℕ) → AllDigits 10 digits → All (λ b. (b == 32) ≡ false) digits
no_spaces digits h = λ k d fits.
    no_space (get_or digits k d) (get_or digits k 0) (get_or_default digits k d 0 fits)
    (digit_at digits k h fits)

are_digits : (digits : List ℕ) → AllDigits 10 digits → list_all is_ascii_digit digits ≡ true
are_digits [] h = refl
are_digits (c ∷ digits) h =
    grind (arith, nat_tests, digit_from_value c h.0, are_digits digits h.1)

written : (m : ℕ) → m ≤ GREATEST_MOMENT → number_of (decimal m) ≡ Some m
unfolding is_number
written m h =
    let n = decimal_is_IsNumeral m (omega (arith, h)) in
    grind (
      arith,
      nat_tests,
      n.0.0,
      n.1,
      moment_digits m (omega (arith, h)),
      are_digits (decimal m) n.0.1,
    )

reported : (m : ℕ) → m ≤ GREATEST_MOMENT → moment_at (pos m) ≡ Ok m
unfolding moment_at
reported m h = grind (arith, nat_tests, h)

read_back : (m : ℕ) → m ≤ GREATEST_MOMENT → moment_of (decimal m) ≡ Some (Ok m)
read_back m h =
    ap (λ n. option_map_or (λ seconds. Some (moment_at (pos seconds))) n (date_time_of (decimal m)))
    (written m h)
    ∙ ap Some (reported m h)

-- ---- words

two_words : (digits : List ℕ) → AllDigits 10 digits
    → words_of (codes "advance " ++ digits) ≡ codes "advance" ∷ digits ∷ []
two_words digits h =
    let line = codes "advance " ++ digits in
    let at : position (λ b. b == 32) line ≡ Some 7 =
    grind (arith, nat_tests, common_steps, length-append (codes "advance ") digits) in
    let rest : take (length line - 8) digits ≡ digits =
    take_all (length line - 8) digits (omega (arith, length-append (codes "advance ") digits)) in
    words_at_space line 7 at
    ∙ ap (λ words. codes "advance" ∷ words)
    (ap words_of rest ∙ slice_split_none (λ b. b == 32) digits (no_spaces digits h))

in_bounds : (line : List ℕ) → 0 < length line → length line ≤ 256
    → request_of line ≡ unwrap_or (asked_by (words_of line)) asked.BadLine
in_bounds line some few = grind (arith, nat_tests, common_steps, some, few)

-- The line that is put before others is read as an advance to its moment.
pub asks_so : (m : ℕ) → m ≤ GREATEST_MOMENT
    → request_of (advance_line m) ≡ asked.Step (step.Command (command.Advance m))
asks_so m h =
    let digits = decimal m in
    let few = moment_digits m (omega (arith, h)) in
    let size = length-append (codes "advance ") digits in
    in_bounds (advance_line m) (omega (arith, size)) (omega (arith, size, few))
    ∙ ap (λ words. unwrap_or (asked_by words) asked.BadLine)
    (two_words digits (decimal_is_IsNumeral m (omega (arith, h))).0.1)
    ∙ ap (λ moment. unwrap_or (option_map asks_advance moment) asked.BadLine) (read_back m h)
