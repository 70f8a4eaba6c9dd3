-- The names that are made are names, and a number is a text.
use Rattle.std.proofs.Common.{◌≡◌, ◌<◌, ◌≤◌, ◌+◌, ◌^◌, ◌∙◌, ◌&&◌, ℕ, Bool, true, cond, List, []}
use Rattle.std.proofs.Common.{◌∷◌, ◌++◌}
use Rattle.std.proofs.Common.{codes, length, nat_le, ap, refl, arith, length-append}
use Rattle.std.proofs.lemmas.Bool.{le-leb, leb-true}
use Rattle.std.proofs.lemmas.Bool.Decides.{nat_tests}
use Rattle.std.proofs.lemmas.Fmt.{decimal_is_IsNumeral, decimal_nonempty, length-decimal-le}
use Rattle.std.proofs.lemmas.List.Folds.{list_all-append}
use Rattle.std.proofs.lemmas.Str.Parse.{digit_from_value}
use Rattle.std.specs.Fmt.{decimal}
use Rattle.std.specs.List.{list_all}
use Rattle.std.specs.Str.Parse.{AllDigits}
use Rattle.run_model.specs.Texts.{IsName, IsText, is_name_byte, is_text_byte}
use Rattle.run_model.proofs.Common.{and_from, and_parts}
use Rattle.std.proofs.Common.{false, take}
use Rattle.drive_nights.specs.declared.names.Role.{Role}
use Rattle.drive_nights.specs.declared.names.Role.TheVariants as role
use Rattle.drive_nights.specs.Names.{is_short, role_name, role_word, round_name}

-- ---- digits

name_digit : (b : ℕ) → 48 ≤ b → b ≤ 57 → is_name_byte b ≡ true
name_digit b low high = grind (arith, nat_tests)

text_digit : (b : ℕ) → 48 ≤ b → b ≤ 57 → is_text_byte b ≡ true
text_digit b low high = grind (arith, nat_tests)

digits_named : (ds : List ℕ) → AllDigits 10 ds → list_all is_name_byte ds ≡ true
digits_named [] h = refl
digits_named (c ∷ ds) h =
    let in_range = digit_from_value c h.0 in
    and_from (is_name_byte c) (list_all is_name_byte ds)
    (name_digit c (omega (arith, in_range)) (omega (arith, in_range))) (digits_named ds h.1)

digits_texted : (ds : List ℕ) → AllDigits 10 ds → list_all is_text_byte ds ≡ true
digits_texted [] h = refl
digits_texted (c ∷ ds) h =
    let in_range = digit_from_value c h.0 in
    and_from (is_text_byte c) (list_all is_text_byte ds)
    (text_digit c (omega (arith, in_range)) (omega (arith, in_range))) (digits_texted ds h.1)

-- A number is a text.
pub number_is_text : (n : ℕ) → n < 2 ^ 64 → IsText (decimal n)
number_is_text n small =
    let long : 0 < length (decimal n) = decimal_nonempty n small in
    let short : length (decimal n) ≤ 20 =
    length-decimal-le 20 n (omega arith) (omega (arith, small)) small in
    let all : list_all is_text_byte (decimal n) ≡ true =
    digits_texted (decimal n) (decimal_is_IsNumeral n small).0.1 in
    and_from (nat_le 1 (length (decimal n)) && nat_le (length (decimal n)) 64)
    (list_all is_text_byte (decimal n))
    (and_from (nat_le 1 (length (decimal n))) (nat_le (length (decimal n)) 64)
    (le-leb 1 (length (decimal n)) (omega (arith, long)))
    (le-leb (length (decimal n)) 64 (omega (arith, short)))) all

-- ---- names

-- Bytes of which a name can be made.
pub record AreNamed (bytes : List ℕ) : Type 0 where
  pub all : list_all is_name_byte bytes ≡ true

pub named_both : (xs ys : List ℕ) → AreNamed xs → AreNamed ys → AreNamed (xs ++ ys)
named_both xs ys one two = record {
  all = list_all-append is_name_byte xs ys
      ∙ and_from (list_all is_name_byte xs) (list_all is_name_byte ys) one.all two.all;
}

pub number_is_named : (n : ℕ) → n < 2 ^ 64 → AreNamed (decimal n)
number_is_named n small =
    record { all = digits_named (decimal n) (decimal_is_IsNumeral n small).0.1 }

pub is_name_by : (bytes : List ℕ) → AreNamed bytes → 1 ≤ length bytes → length bytes ≤ 32
    → IsName bytes
is_name_by bytes named long short =
    and_from (nat_le 1 (length bytes) && nat_le (length bytes) 32) (list_all is_name_byte bytes)
    (and_from (nat_le 1 (length bytes)) (nat_le (length bytes) 32)
    (le-leb 1 (length bytes) long) (le-leb (length bytes) 32 short)) named.all

pub record IsGood (bytes : List ℕ) : Type 0 where
  pub named : AreNamed bytes
  pub long : 1 ≤ length bytes
  pub short : length bytes ≤ 32

pub name_parts : (bytes : List ℕ) → IsName bytes → IsGood bytes
name_parts bytes is =
    let parts = and_parts (nat_le 1 (length bytes) && nat_le (length bytes) 32)
    (list_all is_name_byte bytes) is in
    let sizes = and_parts (nat_le 1 (length bytes)) (nat_le (length bytes) 32) parts.0 in
    record {
      named = record { all = parts.1 };
      long = leb-true 1 (length bytes) sizes.0;
      short = leb-true (length bytes) 32 sizes.1;
    }

-- A name of a round, and its length.
pub record IsRoundName (bytes : List ℕ) : Type 0 where
  pub named : AreNamed bytes
  pub long : 1 ≤ length bytes
  pub short : length bytes ≤ 29

pub round_is_name : (group : List ℕ) (n k : ℕ) → IsName group → is_short group n ≡ true
    → n < 2 ^ 64 → k < 10 ^ 2 → IsRoundName (round_name group n k)
round_is_name group n k is fits small few =
    by_round (nat_le k 1) (nat_le n 1)
  where
    it : IsGood group
    it = name_parts group is

    sum : length group + length (decimal n) ≤ 24
    sum = leb-true (length group + length (decimal n)) 24 fits

    some : 0 < length (decimal n)
    some = decimal_nonempty n small

    rounds : length (decimal k) ≤ 2
    rounds = length-decimal-le 2 k (omega arith) few (omega (arith, few))

    dashes : AreNamed (codes "--")
    dashes = record { all = refl }

    first : AreNamed (group ++ codes "--" ++ decimal n)
    first =
        named_both (group ++ codes "--") (decimal n) (named_both group (codes "--") it.named dashes)
        (number_is_named n small)

    first_length : length (group ++ codes "--" ++ decimal n)
        ≡ length group + 2 + length (decimal n)
    first_length =
        length-append (group ++ codes "--") (decimal n)
        ∙ ap (λ m. m + length (decimal n)) (length-append group (codes "--"))

    all_length : length (group ++ codes "--" ++ decimal n ++ codes "-" ++ decimal k)
        ≡ length group + 2 + length (decimal n) + 1 + length (decimal k)
    all_length =
        length-append (group ++ codes "--" ++ decimal n ++ codes "-") (decimal k)
        ∙ ap (λ m. m + length (decimal k))
        (length-append (group ++ codes "--" ++ decimal n) (codes "-")
        ∙ ap (λ m. m + 1) first_length)

    by_round : (a b : Bool) → IsRoundName (cond a (cond b group (group ++ codes "--" ++ decimal n))
        (group ++ codes "--" ++ decimal n ++ codes "-" ++ decimal k))
    by_round true true = record {
      named = it.named;
      long = it.long;
      short = omega (arith, sum, some);
    }
    by_round true false = record {
      named = first;
      long = omega (arith, first_length);
      short = omega (arith, first_length, sum);
    }
    by_round false b = record {
      named = named_both (group ++ codes "--" ++ decimal n ++ codes "-") (decimal k)
          (named_both (group ++ codes "--" ++ decimal n) (codes "-") first
          (record { all = refl })) (number_is_named k (omega (arith, few)));
      long = omega (arith, all_length);
      short = omega (arith, all_length, sum, rounds);
    }

-- ---- roles

role_named : (r : Role) → AreNamed (role_word r)
role_named role.Until = record { all = refl }
role_named role.Said = record { all = refl }
role_named role.Round = record { all = refl }
role_named role.Ended = record { all = refl }

letter_named : (r : Role) → AreNamed (take 1 (role_word r))
letter_named role.Until = record { all = refl }
letter_named role.Said = record { all = refl }
letter_named role.Round = record { all = refl }
letter_named role.Ended = record { all = refl }

one_letter : (r : Role) → length (take 1 (role_word r)) ≡ 1
one_letter role.Until = refl
one_letter role.Said = refl
one_letter role.Round = refl
one_letter role.Ended = refl

pub role_is_name : (name : List ℕ) (r : Role) → IsName name → length name ≤ 29
    → IsName (role_name name r)
role_is_name name r is short =
    by_length (nat_le (length (name ++ codes "--" ++ role_word r)) 32) refl
  where
    it : IsGood name
    it = name_parts name is

    dashes : AreNamed (name ++ codes "--")
    dashes = named_both name (codes "--") it.named (record { all = refl })

    two : length (name ++ codes "--") ≡ length name + 2
    two = length-append name (codes "--")

    by_length : (b : Bool) → nat_le (length (name ++ codes "--" ++ role_word r)) 32 ≡ b
        → IsName (cond b (name ++ codes "--" ++ role_word r)
        (name ++ codes "--" ++ take 1 (role_word r)))
    by_length true fits =
        let long : length (name ++ codes "--" ++ role_word r)
        ≡ length (name ++ codes "--") + length (role_word r) =
        length-append (name ++ codes "--") (role_word r) in
        is_name_by (name ++ codes "--" ++ role_word r)
        (named_both (name ++ codes "--") (role_word r) dashes (role_named r))
        (omega (arith, long, two)) (leb-true _ 32 fits)
    by_length false fits =
        let long : length (name ++ codes "--" ++ take 1 (role_word r))
        ≡ length (name ++ codes "--") + length (take 1 (role_word r)) =
        length-append (name ++ codes "--") (take 1 (role_word r)) in
        is_name_by (name ++ codes "--" ++ take 1 (role_word r))
        (named_both (name ++ codes "--") (take 1 (role_word r)) dashes (letter_named r))
        (omega (arith, long, two)) (omega (arith, long, two, short, one_letter r))

-- ---- nights

pub night_is_short : (n : ℕ) → n < 10 ^ 10 → is_short (codes "night") n ≡ true
night_is_short n small =
    le-leb (length (codes "night") + length (decimal n)) 24
    (omega (arith, length-decimal-le 10 n (omega arith) small (omega (arith, small))))
