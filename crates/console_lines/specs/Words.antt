-- The words of a line.
use Rattle.std.specs.Prelude.{ℕ, ◌==◌, List, [], ◌∷◌, Option, Some, None}
use Rattle.std.specs.Borrow.{Bor}
use Rattle.std.specs.List.{slice_split, join_with_byte}
use Rattle.std.specs.Option.{option_map}

-- The words of a line. The line is split at each single space, so a word may be empty.
abbrev pub words_of : List ℕ → List (List ℕ)
words_of line = slice_split (λ b. b == 32) line

-- The rest of a line, from a word on: these words, with a space between each two. If no word is
-- left, there is no rest.
abbrev pub rest_of : List (List ℕ) → Option (List ℕ)
rest_of [] = None
rest_of (word ∷ words) = Some (join_with_byte 32 (word ∷ words))

-- The word of a line that has only one word.
abbrev pub only_word : List (List ℕ) → Option (List ℕ)
only_word (word ∷ []) = Some word
only_word _ = None

-- The words of the rest of a line, if there is a rest.
abbrev pub words_in : Option (List ℕ) → List (List ℕ)
words_in None = []
words_in (Some left) = words_of left

-- The rest of a line, as bytes.
abbrev pub lent : Option (Bor (List ℕ)) → Option (List ℕ)
lent left = option_map (λ bytes. bytes.now) left
