-- The words of a line, one after another.
use Rattle.std.specs.Prelude.{◌≡◌, ℕ, ◌+◌, ◌-◌, ◌<◌, ◌≤◌, nat_lt, ◌==◌, Bool, false, cond}
use Rattle.std.specs.Prelude.{List, [], ◌∷◌, length, take, drop, Option, Some, None, position}
use Rattle.std.specs.List.{join_with_byte, position_or_len, All}
use Rattle.std.proofs.Common.{arith, refl, sym, ap, subst, ◌∙◌}
use Rattle.std.proofs.lemmas.Bool.Decides.{nat_tests}
use Rattle.std.proofs.lemmas.Grind.{common_steps}
use Rattle.std.proofs.lemmas.List.{take_rest}
use Rattle.std.proofs.lemmas.List.Quantifiers.{position-Some}
use Rattle.std.proofs.lemmas.List.Splits.{join_with_byte-slice_split, length-slice_split}
use Rattle.std.proofs.lemmas.List.Splits.{slice_split_first, slice_split_none}
use Rattle.std.proofs.lemmas.List.Sums.{position_or_len_is, fails_before_first}
use Rattle.run_model.specs.declared.commands.Wish.{Wish}
use Rattle.console_lines.specs.Words.{words_of, words_in, rest_of, only_word}
use Rattle.console_lines.specs.LineRequests.{alone}
use Rattle.console_lines.specs.TaskLines.{asks_alone}
use Rattle.console_lines.specs.declared.line_requests.LineRequest.{LineRequest}

-- A line has at least one word.
has_words : (line : List ℕ) → 0 < length (words_of line)
has_words line = grind (arith, length-slice_split (λ b. b == 32) line)

-- The first word ends at the first space, and the others come after it.
pub words_at_space :
    (line : List ℕ) (i : ℕ)
    → position (λ b. b == 32) line ≡ Some i
    → words_of line ≡ take i line ∷ words_of (take (length line - (i + 1)) (drop (i + 1) line))
words_at_space line i e =
    let at = position-Some (λ b. b == 32) line i 0 e in
    let here : position_or_len (λ b. b == 32) line ≡ i =
    position_or_len_is (λ b. b == 32) line i 0 (omega (arith, at.0)) at.2 (λ _. at.1) in
    let P : ℕ → Type 0 = λ n. n < length line
    → words_of line ≡ take n line ∷ words_of (drop (n + 1) line) in
    let cut : words_of line ≡ take i line ∷ words_of (drop (i + 1) line) =
    subst P here (slice_split_first (λ b. b == 32) line 0) at.0 in
    cut ∙ ap (λ rest. take i line ∷ words_of rest) (sym (take_rest line (i + 1)))

no_space_before :
    (line : List ℕ) (b : Bool)
    → nat_lt (position_or_len (λ b. b == 32) line) (length line) ≡ b
    → cond b (Some (position_or_len (λ b. b == 32) line)) None ≡ None
    → length line ≤ position_or_len (λ b. b == 32) line
no_space_before line b e h = grind (arith, nat_tests, common_steps)

-- A line without a space is one word.
pub words_without_space :
    (line : List ℕ) → position (λ b. b == 32) line ≡ None → words_of line ≡ line ∷ []
words_without_space line e =
    let all = no_space_before line _ refl e in
    let none : All (λ b. (b == 32) ≡ false) line =
    λ k d h. fails_before_first (λ b. b == 32) line k d (omega (arith, h, all)) in
    slice_split_none (λ b. b == 32) line none

rest_of_more : (words : List (List ℕ)) → 0 < length words
    → rest_of words ≡ Some (join_with_byte 32 words)
rest_of_more [] h = absurd (omega (arith, h))
rest_of_more (word ∷ words) h = refl

-- The rest of a line is what comes after its words so far, byte for byte.
pub rest_is : (left : Option (List ℕ)) → rest_of (words_in left) ≡ left
rest_is None = refl
rest_is (Some line) =
    rest_of_more (words_of line) (has_words line) ∙ ap Some (join_with_byte-slice_split 32 line)

alone_words : (wish : Wish) (words : List (List ℕ)) → 0 < length words → alone wish words ≡ None
alone_words wish [] h = absurd (omega (arith, h))
alone_words wish (word ∷ words) h = refl

-- A wish that takes no word isn't one if a word is left.
pub alone_more : (wish : Wish) (line : List ℕ) → alone wish (words_of line) ≡ None
alone_more wish line = alone_words wish (words_of line) (has_words line)

asks_alone_words : (a : LineRequest) (words : List (List ℕ)) → 0 < length words
    → asks_alone a words ≡ None
asks_alone_words a [] h = absurd (omega (arith, h))
asks_alone_words a (word ∷ words) h = refl

-- A request that takes no word isn't one if a word is left.
pub asks_alone_more : (a : LineRequest) (line : List ℕ) → asks_alone a (words_of line) ≡ None
asks_alone_more a line = asks_alone_words a (words_of line) (has_words line)

only_word_words : (word : List ℕ) (words : List (List ℕ)) → 0 < length words
    → only_word (word ∷ words) ≡ None
only_word_words word [] h = absurd (omega (arith, h))
only_word_words word (more ∷ words) h = refl

-- A word with another one after it isn't the last.
pub only_word_more : (word line : List ℕ) → only_word (word ∷ words_of line) ≡ None
only_word_more word line = only_word_words word (words_of line) (has_words line)
