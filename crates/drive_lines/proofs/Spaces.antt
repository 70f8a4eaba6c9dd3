-- A line is cut in one way only at its first space, and at its last one.
use Rattle.std.specs.Prelude.{◌≡◌, ◌==◌, ◌<◌, ◌+◌, ◌++◌, ◌∷◌, ℕ, zero, suc, Bool, true}
use Rattle.std.specs.Prelude.{false, List, [], Option, Some, None, length, take, drop, slice_index}
use Rattle.std.specs.List.{list_all, list_any}
use Rattle.std.proofs.Common.{arith, refl, sym, ap, ◌∙◌}
use Rattle.std.proofs.lemmas.Bool.{eqb-true}
use Rattle.std.proofs.lemmas.Bool.Decides.{nat_tests}
use Rattle.std.proofs.Math.Seq.{split_at}
use Rattle.memchr.specs.Find.{Nowhere, Passes, is_byte}
use Rattle.run_model.specs.Texts.{IsName, is_name_byte}
use Rattle.drive_lines.specs.Cuts.{HasNoSpace, IsLastCut, is_space}
use Rattle.drive_lines.specs.Spaces.{after, first_of, rest_of, spaced}

-- ---- the first space

pub first_alone : (w : List ℕ) → HasNoSpace w → first_of w ≡ w
first_alone [] h = refl
first_alone (b ∷ w) h = grind (arith, nat_tests, first_alone w)

first_spaced : (w rest : List ℕ) → HasNoSpace w → first_of (w ++ 32 ∷ rest) ≡ w
first_spaced [] rest h = refl
first_spaced (b ∷ w) rest h = grind (arith, nat_tests, first_spaced w rest)

pub rest_alone : (w : List ℕ) → HasNoSpace w → rest_of w ≡ None
rest_alone [] h = refl
rest_alone (b ∷ w) h = grind (arith, nat_tests, rest_alone w)

rest_spaced : (w rest : List ℕ) → HasNoSpace w → rest_of (w ++ 32 ∷ rest) ≡ Some rest
rest_spaced [] rest h = refl
rest_spaced (b ∷ w) rest h = grind (arith, nat_tests, rest_spaced w rest)

-- A word and what is left are found again.
pub first_of_after : (w : List ℕ) (rest : Option (List ℕ)) → HasNoSpace w
    → first_of (after w rest) ≡ w
first_of_after w None h = first_alone w h
first_of_after w (Some rest) h = first_spaced w rest h

pub rest_of_after : (w : List ℕ) (rest : Option (List ℕ)) → HasNoSpace w
    → rest_of (after w rest) ≡ rest
rest_of_after w None h = rest_alone w h
rest_of_after w (Some rest) h = rest_spaced w rest h

after_more : (b : ℕ) (w : List ℕ) (rest : Option (List ℕ)) → after (b ∷ w) rest ≡ b ∷ after w rest
after_more b w None = refl
after_more b w (Some rest) = refl

-- Each line is a first word and what is left.
pub whole_again : (line : List ℕ) → after (first_of line) (rest_of line) ≡ line
whole_again [] = refl
whole_again (b ∷ line) =
    grind (arith, nat_tests, whole_again line, after_more b (first_of line) (rest_of line))

-- ---- where a search finds it

not_true : (b : Bool) → (b ≡ true → ⊥) → b ≡ false
not_true true h = absurd (h refl)
not_true false h = refl

pub first_at : (line : List ℕ) (n : ℕ) → n < length line → (slice_index line n == 32) ≡ true
    → Nowhere (Passes (is_byte 32) line) 0 n → first_of line ≡ take n line
first_at [] n below is none = absurd (omega (arith, below))
first_at (b ∷ line) zero below is none = grind (arith, nat_tests, is)
first_at (b ∷ line) (suc n) below is none =
    let other : (b == 32) ≡ false = not_true (b == 32) (none 0 (omega arith) (omega arith)) in
    let more =
    first_at line n (omega (arith, below)) is
    (λ k a d. none (suc k) (omega arith) (omega (arith, d))) in
    rw other (ap (λ (l : List ℕ). b ∷ l) more)

pub rest_at : (line : List ℕ) (n : ℕ) → n < length line → (slice_index line n == 32) ≡ true
    → Nowhere (Passes (is_byte 32) line) 0 n → rest_of line ≡ Some (drop (n + 1) line)
rest_at [] n below is none = absurd (omega (arith, below))
rest_at (b ∷ line) zero below is none = grind (arith, nat_tests, is)
rest_at (b ∷ line) (suc n) below is none =
    let other : (b == 32) ≡ false = not_true (b == 32) (none 0 (omega arith) (omega arith)) in
    let more =
    rest_at line n (omega (arith, below)) is
    (λ k a d. none (suc k) (omega arith) (omega (arith, d))) in
    let next : suc (n + 1) ≡ suc n + 1 = omega arith in
    rw other (more ∙ ap (λ (m : ℕ). Some (drop m (b ∷ line))) next)

pub nowhere_none : (line : List ℕ) → Nowhere (Passes (is_byte 32) line) 0 (length line)
    → HasNoSpace line
nowhere_none [] none = refl
nowhere_none (b ∷ line) none =
    let other : (b == 32) ≡ false = not_true (b == 32) (none 0 (omega arith) (omega arith)) in
    rw other (nowhere_none line (λ k a d. none (suc k) (omega arith) (omega (arith, d))))

-- ---- the last space

has_one : (a x : List ℕ) → list_any is_space (a ++ 32 ∷ x) ≡ true
has_one [] x = refl
has_one (b ∷ a) x = grind (arith, nat_tests, has_one a x)

pub no_tail : (x b y : List ℕ) → HasNoSpace x → x ≡ b ++ 32 ∷ y → ⊥
no_tail x b y h e =
    let some : list_any is_space x ≡ true = ap (list_any is_space) e ∙ has_one b y in
    cc

pub same_head : (a b x y : List ℕ) → HasNoSpace x → HasNoSpace y → spaced a x ≡ spaced b y → a ≡ b
same_head [] [] x y h k e = refl
same_head [] (c ∷ b) x y h k e =
    let tails : x ≡ b ++ 32 ∷ y = cc in
    absurd (no_tail x b y h tails)
same_head (c ∷ a) [] x y h k e =
    let tails : y ≡ a ++ 32 ∷ x = cc in
    absurd (no_tail y a x k tails)
same_head (c ∷ a) (d ∷ b) x y h k e =
    let heads : c ≡ d = cc in
    let tails : spaced a x ≡ spaced b y = cc in
    let more = same_head a b x y h k tails in
    cc

pub same_last : (a b x y : List ℕ) → HasNoSpace x → HasNoSpace y → spaced a x ≡ spaced b y → x ≡ y
same_last [] [] x y h k e = cc
same_last [] (c ∷ b) x y h k e =
    let tails : x ≡ b ++ 32 ∷ y = cc in
    absurd (no_tail x b y h tails)
same_last (c ∷ a) [] x y h k e =
    let tails : y ≡ a ++ 32 ∷ x = cc in
    absurd (no_tail y a x k tails)
same_last (c ∷ a) (d ∷ b) x y h k e =
    let tails : spaced a x ≡ spaced b y = cc in
    same_last a b x y h k tails

-- Where a search finds the last space.
none_after : (line : List ℕ) (k : ℕ) → Nowhere (Passes (is_byte 32) line) k (length line)
    → HasNoSpace (drop k line)
none_after line zero none = nowhere_none line none
none_after [] (suc k) none = refl
none_after (b ∷ line) (suc k) none =
    none_after line k (λ i a d. none (suc i) (omega (arith, a)) (omega (arith, d)))

pub last_at : (line : List ℕ) (n : ℕ) → n < length line → (slice_index line n == 32) ≡ true
    → Nowhere (Passes (is_byte 32) line) (n + 1) (length line)
    → IsLastCut line (take n line) (drop (n + 1) line)
last_at line n below is none = record {
  whole =
      let next : suc n ≡ n + 1 = omega arith in
      sym (split_at line n 0 below
      ∙ ap (λ (x : ℕ). take n line ++ x ∷ drop (suc n) line) (eqb-true (slice_index line n) 32 is)
      ∙ ap (λ (m : ℕ). take n line ++ 32 ∷ drop m line) next);
  last = none_after line (n + 1) none;
}

-- ---- names

name_bytes : (name : List ℕ) → list_all is_name_byte name ≡ true → HasNoSpace name
name_bytes [] h = refl
name_bytes (b ∷ name) h = grind (arith, nat_tests, name_bytes name)

pub name_no_space : (name : List ℕ) → IsName name → HasNoSpace name
name_no_space name h =
    let all : list_all is_name_byte name ≡ true = grind (arith, nat_tests, h) in
    name_bytes name all
