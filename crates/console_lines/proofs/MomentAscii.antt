-- A date and time is ASCII.
use Rattle.std.specs.Prelude.{◌≡◌, ℕ, ◌<◌, nat_lt, Bool, true, false, ◌&&◌, ◌||◌, List, [], ◌∷◌}
use Rattle.std.specs.Prelude.{length, take, drop, slice_range, codes}
use Rattle.std.specs.List.{All, list_all, zip}
use Rattle.std.specs.Str.{IsAscii, bytes_eq}
use Rattle.std.specs.Cmp.Lexicographic.{same_text}
use Rattle.std.proofs.Common.{arith, refl, sym, subst, inl, inr, ◌⊎◌}
use Rattle.std.proofs.lemmas.Bool.{false≢true}
use Rattle.std.proofs.lemmas.Bool.Decides.{nat_tests}
use Rattle.std.proofs.lemmas.Grind.{common_steps}
use Rattle.std.proofs.lemmas.List.{take-append-drop, length-take}
use Rattle.std.proofs.lemmas.List.Elements.{All-nil, All-cons, All-append}
use Rattle.std.proofs.lemmas.Str.Ascii.{IsAscii-from_all}
use Rattle.console_lines.specs.Shapes.{is_like, has_shape, is_in}
use Rattle.console_lines.specs.Moments.{is_local, is_offset, is_date_time}

like_ascii : (s b : ℕ) → s < 128 → is_like s b ≡ true → b < 128
like_ascii s b h e = grind (arith, nat_tests, common_steps)

likes_ascii :
    (shape word : List ℕ)
    → length shape ≡ length word
    → list_all (λ s. nat_lt s 128) shape ≡ true
    → list_all (λ pair. is_like pair.0 pair.1) (zip shape word) ≡ true
    → All (λ b. b < 128) word
likes_ascii shape [] n a h = All-nil _
likes_ascii [] (b ∷ word) n a h = absurd (omega (arith, n))
likes_ascii (s ∷ shape) (b ∷ word) n a h =
    let low : s < 128 = grind (arith, nat_tests, common_steps) in
    let first : is_like s b ≡ true = grind (arith, common_steps) in
    let lows : list_all (λ x. nat_lt x 128) shape ≡ true = grind (arith, common_steps) in
    let likes : list_all (λ pair. is_like pair.0 pair.1) (zip shape word) ≡ true =
    grind (arith, common_steps) in
    All-cons (λ x. x < 128) b word (like_ascii s b low first)
    (likes_ascii shape word (omega (arith, n)) lows likes)

-- A word of an ASCII shape is ASCII.
shape_ascii :
    (shape word : List ℕ)
    → list_all (λ s. nat_lt s 128) shape ≡ true
    → has_shape shape word ≡ true
    → All (λ b. b < 128) word
unfolding has_shape
shape_ascii shape word a h =
    let same : length shape ≡ length word = grind (arith, nat_tests, common_steps) in
    let likes : list_all (λ pair. is_like pair.0 pair.1) (zip shape word) ≡ true =
    grind (arith, common_steps) in
    likes_ascii shape word same a likes

shape_length :
    (shape word : List ℕ) → has_shape shape word ≡ true → length word ≡ length shape
unfolding has_shape
shape_length shape word h = grind (arith, nat_tests, common_steps)

local_shape :
    (bytes : List ℕ) → is_local bytes ≡ true → has_shape (codes "dddd-dd-ddTdd:dd:dd") bytes ≡ true
unfolding is_local
local_shape bytes h = grind (arith, common_steps)

-- A date and a time of day has 19 bytes.
pub local_length : (bytes : List ℕ) → is_local bytes ≡ true → length bytes ≡ 19
local_length bytes h = shape_length (codes "dddd-dd-ddTdd:dd:dd") bytes (local_shape bytes h)

local_ascii : (bytes : List ℕ) → is_local bytes ≡ true → All (λ b. b < 128) bytes
local_ascii bytes h =
    shape_ascii (codes "dddd-dd-ddTdd:dd:dd") bytes refl (local_shape bytes h)

zulu_ascii : All (λ b. b < 128) (codes "Z")
zulu_ascii = All-cons (λ b. b < 128) 90 [] (omega arith) (All-nil _)

-- A choice of a value and a part of a conjunction.
offset_parts :
    (a b c d e : Bool)
    → (a || ((b || c) && d && e)) ≡ true
    → (a ≡ true) ⊎ ((b ≡ true) ⊎ (c ≡ true))
offset_parts true b c d e h = inl refl
offset_parts false true c d e h = inr (inl refl)
offset_parts false false true d e h = inr (inr refl)
offset_parts false false false d e h = absurd (false≢true h)

offset_cases :
    (bytes : List ℕ)
    → is_offset bytes ≡ true
    → (bytes_eq bytes (codes "Z") ≡ true)
    ⊎ ((has_shape (codes "+dd:dd") bytes ≡ true) ⊎ (has_shape (codes "-dd:dd") bytes ≡ true))
unfolding is_offset
offset_cases bytes h = offset_parts (bytes_eq bytes (codes "Z"))
    (has_shape (codes "+dd:dd") bytes) (has_shape (codes "-dd:dd") bytes)
    (is_in 0 23 (slice_range bytes 1 3)) (is_in 0 59 (slice_range bytes 4 6)) h

offset_ascii : (bytes : List ℕ) → is_offset bytes ≡ true → All (λ b. b < 128) bytes
offset_ascii bytes h = elim (offset_cases bytes h) [
  | inl e ↦
      let P : List ℕ → Type 0 = λ x. All (λ b. b < 128) x in
      subst P (sym (same_text bytes (codes "Z") (sym e))) zulu_ascii
  | inr (inl e) ↦ shape_ascii (codes "+dd:dd") bytes refl e
  | inr (inr e) ↦ shape_ascii (codes "-dd:dd") bytes refl e
]

-- A date and time is ASCII.
pub date_time_ascii : (word : List ℕ) → is_date_time word ≡ true → IsAscii word
unfolding is_date_time
date_time_ascii word h =
    let first : is_local (take 19 word) ≡ true = grind (arith, common_steps) in
    let last : is_offset (drop 19 word) ≡ true = grind (arith, common_steps) in
    let P : List ℕ → Type 0 = λ x. All (λ b. b < 128) x in
    IsAscii-from_all word
    (subst P (take-append-drop 19 word) (All-append (λ b. b < 128) (take 19 word) (drop 19 word)
    (local_ascii (take 19 word) first) (offset_ascii (drop 19 word) last)))

short_local : (bytes : List ℕ) (t : Bool) → length bytes < 19 → is_local bytes ≡ t → t ≡ false
short_local bytes false h e = refl
short_local bytes true h e = absurd (omega (arith, local_length bytes e, h))

-- A word of fewer than 19 bytes isn't a date and time.
pub short_word : (word : List ℕ) → length word < 19 → is_date_time word ≡ false
unfolding is_date_time
short_word word h =
    let e : is_local (take 19 word) ≡ false =
    short_local (take 19 word) _ (omega (arith, length-take 19 word, h)) refl in
    rw e refl
