-- The names that are made belong to their group, and to no other one.
use Rattle.std.proofs.Common.{◌≡◌, ◌<◌, ◌∙◌, ◌==◌, ◌&&◌, ◌||◌, ◌^◌, ◌++◌, ℕ, Bool}
use Rattle.std.proofs.Common.{true, false, cond, not, List, [], ◌∷◌, codes, length, drop, take}
use Rattle.std.proofs.Common.{refl, sym, ap, arith, nat_le}
use Rattle.std.proofs.Common.{append_assoc, append-nil, length-append}
use Rattle.std.proofs.lemmas.Bool.{false_from_ne_true, le-leb, ne_eqb}
use Rattle.std.proofs.lemmas.Fmt.{decimal_is_IsNumeral, decimal_nonempty}
use Rattle.std.proofs.lemmas.Slice.Eq.{bytes_eq-Decides}
use Rattle.std.proofs.lemmas.Str.Parse.{digit_from_value}
use Rattle.std.specs.Fmt.{decimal}
use Rattle.std.specs.Prelude.{slice_index}
use Rattle.std.specs.Str.{bytes_eq}
use Rattle.std.specs.Str.Parse.{AllDigits}
use Rattle.run_model.proofs.Common.{and_from}
use Rattle.night_drive.specs.Distinct.{IsPlain}
use Rattle.night_drive.specs.Names.{begins, belongs, is_round}
use Rattle.night_drive.proofs.Parting.{one_group}
use Rattle.drive_nights.specs.Names.{NamesBelong, round_name}

-- ---- rounds

take_all : (xs rest : List ℕ) → take (length xs) (xs ++ rest) ≡ xs
take_all [] rest = refl
take_all (x ∷ xs) rest = ap (λ ys. x ∷ ys) (take_all xs rest)

drop_all : (xs rest : List ℕ) → drop (length xs) (xs ++ rest) ≡ rest
drop_all [] rest = refl
drop_all (x ∷ xs) rest = drop_all xs rest

-- What follows a group's name belongs to it.
pub follows : (group rest : List ℕ) → is_round rest ≡ true → belongs group (group ++ rest) ≡ true
follows group rest round =
    and_from (begins (group ++ rest) group) (is_round (drop (length group) (group ++ rest)))
    (and_from (nat_le (length group) (length (group ++ rest)))
    (bytes_eq (take (length group) (group ++ rest)) group)
    (le-leb (length group) (length (group ++ rest))
    (omega (arith, length-append group rest)))
    ((bytes_eq-Decides (take (length group) (group ++ rest)) group).1 (take_all group rest)))
    (ap is_round (drop_all group rest) ∙ round)

-- Two hyphens and a digit follow a name.
digit_follows : (ds rest : List ℕ) → AllDigits 10 ds → 0 < length ds
    → is_round (codes "--" ++ ds ++ rest) ≡ true
digit_follows [] rest digits some = absurd (omega (arith, some))
digit_follows (d ∷ ds) rest digits some =
    let in_range = digit_from_value d digits.0 in
    let xs : List ℕ = codes "--" ++ (d ∷ ds) ++ rest in
    let longer : (length xs == 0) ≡ false = ne_eqb (length xs) 0 (λ same. omega (arith, same)) in
    let other : (d == 45) ≡ false = ne_eqb d 45 (λ same. omega (arith, same, in_range)) in
    ap (λ b. b || (slice_index xs 0 == 45 && slice_index xs 1 == 45
    && not (slice_index xs 2 == 45)))
    longer
    ∙ ap (λ b. not b) other

pub round_belongs : (group : List ℕ) (n k : ℕ) → n < 2 ^ 64
    → belongs group (round_name group n k) ≡ true
round_belongs group n k small = by_round (nat_le k 1) (nat_le n 1)
  where
    digits : AllDigits 10 (decimal n)
    digits = (decimal_is_IsNumeral n small).0.1

    some : 0 < length (decimal n)
    some = decimal_nonempty n small

    none : group ++ [] ≡ group
    none = append-nil group

    first : group ++ codes "--" ++ decimal n ≡ group ++ (codes "--" ++ decimal n ++ [])
    first =
        append_assoc group (codes "--") (decimal n)
        ∙ ap (λ xs. group ++ (codes "--" ++ xs)) (sym (append-nil (decimal n)))

    later : group ++ codes "--" ++ decimal n ++ codes "-" ++ decimal k
        ≡ group ++ (codes "--" ++ decimal n ++ (codes "-" ++ decimal k))
    later =
        append_assoc (group ++ codes "--" ++ decimal n) (codes "-") (decimal k)
        ∙ ap (λ xs. xs ++ (codes "-" ++ decimal k)) (append_assoc group (codes "--") (decimal n))
        ∙ append_assoc group (codes "--" ++ decimal n) (codes "-" ++ decimal k)

    by_round : (a b : Bool)
        → belongs group (cond a (cond b group (group ++ codes "--" ++ decimal n))
        (group ++ codes "--" ++ decimal n ++ codes "-" ++ decimal k)) ≡ true
    by_round true true = ap (belongs group) (sym none) ∙ follows group [] refl
    by_round true false =
        ap (belongs group) first
        ∙ follows group (codes "--" ++ decimal n ++ []) (digit_follows (decimal n) [] digits some)
    by_round false b =
        ap (belongs group) later
        ∙ follows group (codes "--" ++ decimal n ++ (codes "-" ++ decimal k))
        (digit_follows (decimal n) (codes "-" ++ decimal k) digits some)

-- It belongs to no other plain name.
pub round_is_of_one : (group other : List ℕ) (n k : ℕ) → n < 2 ^ 64 → IsPlain group
    → IsPlain other → (group ≡ other → ⊥) → belongs other (round_name group n k) ≡ false
round_is_of_one group other n k small plain_group plain_other apart =
    false_from_ne_true (belongs other (round_name group n k))
    (λ both. apart (one_group group other (round_name group n k) (round_belongs group n k small)
    both plain_group plain_other))

pub names_belong : NamesBelong
names_belong group n k small = (
  round_belongs group n k small,
  λ other plain_group plain_other apart.
      round_is_of_one group other n k small plain_group plain_other apart,
)
