-- How words are spelled: without a space, and no two of them alike.
use Rattle.std.specs.Prelude.{◌≡◌, ◌∷◌, ℕ, Bool, false, true, List, [], Option, Some, None}
use Rattle.std.specs.Prelude.{if◌then◌else◌}
use Rattle.std.specs.List.{list_any}
use Rattle.std.specs.Str.{bytes_eq}
use Rattle.std.proofs.Common.{ap, refl}
use Rattle.drive_lines.specs.Cuts.{HasNoSpace}
use Rattle.drive_lines.specs.Phrases.{takes_name}
use Rattle.drive_lines.specs.Words.{word_text}
use Rattle.drive_lines.specs.declared.words.LineWord.{LineWord}
use Rattle.drive_lines.specs.declared.words.LineWord.TheVariants as word

unfoldable pub words : List LineWord
words =
    word.Until ∷ word.All ∷ word.Next ∷ word.Lives ∷ word.Ended ∷ word.Gone ∷ word.Cancel
    ∷ word.Done ∷ word.Hurry ∷ word.Ask ∷ word.First ∷ []

-- The first of some words that is spelled so.
first_spelled : List ℕ → List LineWord → Option LineWord
first_spelled text [] = None
first_spelled text (w ∷ ws) =
    if bytes_eq text (word_text w) then Some w else first_spelled text ws

-- These bytes are a word.
unfoldable pub is_word : List ℕ → Bool
is_word text = list_any (λ w. bytes_eq text (word_text w)) words

-- A word is found by its text, which has no space, and begins no line with a name.
record IsPlain (w : LineWord) : Type 0 where
  found : first_spelled (word_text w) words ≡ Some w
  no_space : HasNoSpace (word_text w)
  no_name : takes_name (word_text w) ≡ false
  is_one : is_word (word_text w) ≡ true

plain : (w : LineWord) → IsPlain w
unfolding first_spelled words is_word
plain word.Until = record { found = refl; no_space = refl; no_name = refl; is_one = refl }
plain word.All = record { found = refl; no_space = refl; no_name = refl; is_one = refl }
plain word.Next = record { found = refl; no_space = refl; no_name = refl; is_one = refl }
plain word.Lives = record { found = refl; no_space = refl; no_name = refl; is_one = refl }
plain word.Ended = record { found = refl; no_space = refl; no_name = refl; is_one = refl }
plain word.Gone = record { found = refl; no_space = refl; no_name = refl; is_one = refl }
plain word.Cancel = record { found = refl; no_space = refl; no_name = refl; is_one = refl }
plain word.Done = record { found = refl; no_space = refl; no_name = refl; is_one = refl }
plain word.Hurry = record { found = refl; no_space = refl; no_name = refl; is_one = refl }
plain word.Ask = record { found = refl; no_space = refl; no_name = refl; is_one = refl }
plain word.First = record { found = refl; no_space = refl; no_name = refl; is_one = refl }

pub word_no_space : (w : LineWord) → HasNoSpace (word_text w)
word_no_space w = (plain w).no_space

pub word_no_name : (w : LineWord) → takes_name (word_text w) ≡ false
word_no_name w = (plain w).no_name

pub word_is_word : (w : LineWord) → is_word (word_text w) ≡ true
word_is_word w = (plain w).is_one

pub same_word : (v w : LineWord) → word_text v ≡ word_text w → v ≡ w
same_word v w e =
    let one = (plain v).found in
    let two = (plain w).found in
    let alike = ap (λ text. first_spelled text words) e in
    cc
