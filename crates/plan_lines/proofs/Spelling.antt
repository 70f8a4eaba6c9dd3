-- How tokens are spelled: without a space, and no two of them alike.
use Rattle.std.specs.Prelude.{◌≡◌, ◌==◌, ◌<◌, ◌^◌, ◌∷◌, ℕ, Bool, true, false, List, []}
use Rattle.std.specs.Prelude.{Option, Some, None, if◌then◌else◌}
use Rattle.std.specs.Char.{is_ascii_digit}
use Rattle.std.specs.Fmt.{decimal}
use Rattle.std.specs.List.{list_all, list_any}
use Rattle.std.specs.Str.{bytes_eq}
use Rattle.std.proofs.Common.{arith, refl, sym, ap}
use Rattle.std.proofs.lemmas.Bool.Decides.{nat_tests}
use Rattle.std.proofs.lemmas.Fmt.{decimal_is_IsNumeral}
use Rattle.plan_lines.specs.declared.tokens.Keyword.{Keyword}
use Rattle.plan_lines.specs.declared.tokens.Keyword.TheVariants as keyword
use Rattle.plan_lines.specs.declared.tokens.Token.{Token}
use Rattle.plan_lines.specs.declared.tokens.Token.TheVariants as token
use Rattle.plan_lines.specs.Tokens.{IsShort, keyword_text, token_text}
use Rattle.plan_lines.proofs.Digits.{are_digits, misread, written}

-- ---- keywords

keywords : List Keyword
keywords =
    keyword.Pool ∷ keyword.Group ∷ keyword.Command ∷ keyword.Need ∷ keyword.Take ∷ keyword.GoOn
    ∷ keyword.Stop ∷ keyword.Cancel ∷ keyword.Well ∷ keyword.Failed ∷ keyword.Ended ∷ keyword.Now
    ∷ keyword.Size ∷ keyword.Done ∷ keyword.Fresh ∷ keyword.Busy ∷ keyword.Ok
    ∷ keyword.Interrupted ∷ keyword.Cut ∷ keyword.Standings ∷ []

-- The first of some keywords that is spelled so.
first_spelled : List ℕ → List Keyword → Option Keyword
first_spelled text [] = None
first_spelled text (k ∷ ks) =
    if bytes_eq text (keyword_text k) then Some k else first_spelled text ks

abbrev pub is_space : ℕ → Bool
is_space b = b == 32

-- A keyword is found by its text, which has no space and isn't a number.
record IsPlain (k : Keyword) : Type 0 where
  found : first_spelled (keyword_text k) keywords ≡ Some k
  no_space : list_any is_space (keyword_text k) ≡ false
  no_number : list_all is_ascii_digit (keyword_text k) ≡ false

plain : (k : Keyword) → IsPlain k
unfolding first_spelled keywords
plain keyword.Pool = record { found = refl; no_space = refl; no_number = refl }
plain keyword.Group = record { found = refl; no_space = refl; no_number = refl }
plain keyword.Command = record { found = refl; no_space = refl; no_number = refl }
plain keyword.Need = record { found = refl; no_space = refl; no_number = refl }
plain keyword.Take = record { found = refl; no_space = refl; no_number = refl }
plain keyword.GoOn = record { found = refl; no_space = refl; no_number = refl }
plain keyword.Stop = record { found = refl; no_space = refl; no_number = refl }
plain keyword.Cancel = record { found = refl; no_space = refl; no_number = refl }
plain keyword.Well = record { found = refl; no_space = refl; no_number = refl }
plain keyword.Failed = record { found = refl; no_space = refl; no_number = refl }
plain keyword.Ended = record { found = refl; no_space = refl; no_number = refl }
plain keyword.Now = record { found = refl; no_space = refl; no_number = refl }
plain keyword.Size = record { found = refl; no_space = refl; no_number = refl }
plain keyword.Done = record { found = refl; no_space = refl; no_number = refl }
plain keyword.Fresh = record { found = refl; no_space = refl; no_number = refl }
plain keyword.Busy = record { found = refl; no_space = refl; no_number = refl }
plain keyword.Ok = record { found = refl; no_space = refl; no_number = refl }
plain keyword.Interrupted = record { found = refl; no_space = refl; no_number = refl }
plain keyword.Cut = record { found = refl; no_space = refl; no_number = refl }
plain keyword.Standings = record { found = refl; no_space = refl; no_number = refl }

same_keyword : (k l : Keyword) → keyword_text k ≡ keyword_text l → k ≡ l
same_keyword k l e =
    let one = (plain k).found in
    let two = (plain l).found in
    let alike = ap (λ text. first_spelled text keywords) e in
    cc

-- ---- numbers

digits_no_space : (digits : List ℕ) → list_all is_ascii_digit digits ≡ true
    → list_any is_space digits ≡ false
digits_no_space [] h = refl
digits_no_space (c ∷ digits) h = grind (arith, nat_tests, digits_no_space digits)

number_digits : (n : ℕ) → n < 10 ^ 12 → list_all is_ascii_digit (decimal n) ≡ true
number_digits n h = are_digits (decimal n) (decimal_is_IsNumeral n (omega (arith, h))).0.1

-- ---- tokens

pub no_space : (t : Token) → IsShort t → list_any is_space (token_text t) ≡ false
no_space (token.Number n) h = digits_no_space (decimal n) (number_digits n h)
no_space (token.Keyword k) h = (plain k).no_space

no_keyword : (n : ℕ) (k : Keyword) → n < 10 ^ 12 → decimal n ≡ keyword_text k → ⊥
no_keyword n k h e =
    let digits = number_digits n h in
    let none = (plain k).no_number in
    let same = ap (list_all is_ascii_digit) e in
    cc

pub same_token : (s t : Token) → IsShort s → IsShort t → token_text s ≡ token_text t → s ≡ t
same_token (token.Number m) (token.Number n) h k e =
    ap token.Number (misread m n (decimal n) h e (sym (written n k)))
same_token (token.Number m) (token.Keyword k) h i e = absurd (no_keyword m k h e)
same_token (token.Keyword k) (token.Number n) h i e = absurd (no_keyword n k i (sym e))
same_token (token.Keyword k) (token.Keyword l) h i e = ap token.Keyword (same_keyword k l e)
