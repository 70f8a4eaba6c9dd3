-- A line that consists of tokens is split into them, so it consists of no others.
use Rattle.std.specs.Prelude.{◌≡◌, ◌<◌, ◌≤◌, ◌+◌, ◌++◌, ◌∷◌, ℕ, zero, suc, false, List, []}
use Rattle.std.specs.Prelude.{Option, Some, None, length, map, take}
use Rattle.std.specs.Iterator.{Yields}
use Rattle.std.specs.List.{All, join_with_byte, list_any, slice_split}
use Rattle.std.proofs.Common.{arith, refl, sym, ◌∙◌, ap, subst, get_or}
use Rattle.std.proofs.lemmas.Bool.Decides.{nat_tests}
use Rattle.std.proofs.lemmas.Iterator.{YieldsList}
use Rattle.std.proofs.lemmas.Iterator.Consumers.{YieldsList-end, YieldsList-turn}
use Rattle.std.proofs.lemmas.List.{get_or-map, length-map, length_push, map_push}
use Rattle.std.proofs.lemmas.List.{take_all, take_more}
use Rattle.std.proofs.lemmas.List.Elements.{All-push}
use Rattle.std.proofs.lemmas.List.Splits.{join_with_byte-slice_split, length-slice_split}
use Rattle.plan_lines.specs.declared.tokens.Token.{Token}
use Rattle.plan_lines.specs.declared.tokens.Token.TheVariants as token
use Rattle.plan_lines.specs.Tokens.{IsRow, IsShort, token_text}
use Rattle.plan_lines.proofs.Spelling.{is_space, no_space, same_token}

-- The words of a line, between its spaces.
abbrev pub words : List ℕ → List (List ℕ)
words line = slice_split is_space line

-- ---- words without a space

split_one : (text : List ℕ) → list_any is_space text ≡ false → words text ≡ text ∷ []
split_one [] h = refl
split_one (b ∷ text) h = grind (arith, nat_tests, split_one text)

split_more : (text rest : List ℕ) → list_any is_space text ≡ false
    → words (text ++ 32 ∷ rest) ≡ text ∷ words rest
split_more [] rest h = refl
split_more (b ∷ text) rest h = grind (arith, nat_tests, split_more text rest)

-- ---- tokens

rest_short : (t : Token) (tokens : List Token) → All IsShort (t ∷ tokens) → All IsShort tokens
rest_short t tokens h = λ k d lt. h (suc k) d (omega (arith, lt))

first_short : (t : Token) (tokens : List Token) → All IsShort (t ∷ tokens) → IsShort t
first_short t tokens h = h zero t (omega arith)

split_row : (tokens : List Token) → 0 < length tokens → All IsShort tokens
    → words (join_with_byte 32 (map token_text tokens)) ≡ map token_text tokens
split_row [] some h = absurd (omega (arith, some))
split_row (t ∷ []) some h = split_one (token_text t) (no_space t (first_short t [] h))
split_row (t ∷ u ∷ tokens) some h =
    split_more (token_text t) (join_with_byte 32 (map token_text (u ∷ tokens)))
    (no_space t (first_short t (u ∷ tokens) h))
    ∙ ap (λ (l : List (List ℕ)). token_text t ∷ l)
    (split_row (u ∷ tokens) (omega arith) (rest_short t (u ∷ tokens) h))

-- So these are the words of a row.
pub words_of_row : (tokens : List Token) (line : List ℕ) → IsRow tokens line
    → words line ≡ map token_text tokens
words_of_row tokens line row =
    ap words (sym row.text) ∙ split_row tokens row.some row.short

same_tokens : (xs ys : List Token) → All IsShort xs → All IsShort ys
    → map token_text xs ≡ map token_text ys → xs ≡ ys
same_tokens [] [] h k e = refl
same_tokens [] (y ∷ ys) h k e = cc
same_tokens (x ∷ xs) [] h k e = cc
same_tokens (x ∷ xs) (y ∷ ys) h k e =
    let heads : token_text x ≡ token_text y = cc in
    let tails : map token_text xs ≡ map token_text ys = cc in
    let one = same_token x y (first_short x xs h) (first_short y ys k) heads in
    let more = same_tokens xs ys (rest_short x xs h) (rest_short y ys k) tails in
    cc

-- And a line is a row of no other tokens.
pub same_row : (xs ys : List Token) (line : List ℕ) → IsRow xs line → IsRow ys line → xs ≡ ys
same_row xs ys line one two =
    same_tokens xs ys one.short two.short
    (sym (words_of_row xs line one) ∙ words_of_row ys line two)

-- ---- a line is read word by word

-- What an iterator yields in a turn, and what it has yielded at its end: `steps` comes first here.
pub turn_of : {S A B : Type 0} {steps : S → Option A → S → Type 0} {v : A → B} {s : S}
    {all : List B} (xs : List A) (t : S) → Yields steps s xs t → (r : Option A) (u : S) (x : A)
    → r ≡ Some x → steps t r u → YieldsList steps v s all
    → (length xs < length all) × (v x ≡ get_or all (length xs) (v x))
turn_of xs t yielded r u x is step road = YieldsList-turn road xs t yielded r u x is step

pub end_of : {S A B : Type 0} {steps : S → Option A → S → Type 0} {v : A → B} {s : S}
    {all : List B} (xs : List A) (t : S) → Yields steps s xs t → (r : Option A) (u : S)
    → r ≡ None → steps t r u → YieldsList steps v s all → length xs ≡ length all
end_of xs t yielded r u is step road = (YieldsList-end road xs t yielded r u is step).1

-- It has more than seven words.
pub too_many : (tokens : List Token) (line : List ℕ) (k : ℕ) → 7 ≤ k → k < length (words line)
    → IsRow tokens line → ⊥
too_many tokens line k many there row =
    let size = ap length (words_of_row tokens line row) ∙ length-map tokens token_text in
    absurd (omega (arith, many, there, size, row.few))

-- One of its words is no token.
pub not_a_token : (tokens : List Token) (line word : List ℕ) (k : ℕ)
    → (k < length (words line)) × (word ≡ get_or (words line) k word)
    → ((t : Token) → IsShort t → token_text t ≡ word → ⊥)
    → IsRow tokens line → ⊥
not_a_token tokens line word k at none row =
    let is = words_of_row tokens line row in
    let size = ap length is ∙ length-map tokens token_text in
    let there : k < length tokens = omega (arith, size, at.0) in
    let t = get_or tokens k (token.Number 0) in
    none t (row.short k (token.Number 0) there)
    (sym (at.1 ∙ ap (λ (l : List (List ℕ)). get_or l k word) is
    ∙ get_or-map token_text tokens k (token.Number 0) word there))

-- So far, the words are those of the tokens.
pub record AreFirst (tokens : List Token) (line : List ℕ) (k : ℕ) : Type 0 where
  pub texts : map token_text tokens ≡ take k (words line)
  pub short : All IsShort tokens
  pub count : length tokens ≡ k
  pub few : k ≤ 7

pub one_more_first : (tokens more : List Token) (t : Token) (line word : List ℕ) (k : ℕ)
    → AreFirst tokens line k → k < 7 → more ≡ tokens ++ t ∷ []
    → (k < length (words line)) × (word ≡ get_or (words line) k word)
    → IsShort t → token_text t ≡ word
    → AreFirst more line (k + 1)
one_more_first tokens more t line word k first room is at short text = record {
  texts =
      ap (map token_text) is ∙ map_push token_text tokens t
      ∙ ap (λ (l : List (List ℕ)). l ++ token_text t ∷ []) first.texts
      ∙ ap (λ (w : List ℕ). take k (words line) ++ w ∷ []) (text ∙ at.1)
      ∙ sym (take_more (words line) k word at.0);
  short = subst (All IsShort) (sym is) (All-push IsShort tokens t first.short short);
  count = ap length is ∙ length_push tokens t ∙ ap (λ n. n + 1) first.count;
  few = omega (arith, room);
}

pub all_first : (tokens : List Token) (line : List ℕ) (k : ℕ) → AreFirst tokens line k
    → k ≡ length (words line) → IsRow tokens line
all_first tokens line k first end =
    let all : map token_text tokens ≡ words line =
    first.texts ∙ take_all k (words line) (omega (arith, end)) in
    record {
      some = omega (arith, first.count, end, length-slice_split is_space line);
      few = omega (arith, first.count, first.few);
      short = first.short;
      text = ap (join_with_byte 32) all ∙ join_with_byte-slice_split 32 line;
    }
