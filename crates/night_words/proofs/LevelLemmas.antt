-- Levels of the parse in which nothing is found.
use Rattle.std.proofs.Common.{◌≡◌, ◌∷◌, ◌++◌, Bool, List, [], append-nil, append_assoc}
use Rattle.std.proofs.Common.{false, subst, sym}
use Rattle.std.specs.Prelude.{fold}
use Rattle.clap.specs.Kinds.{Kinds}
use Rattle.clap.specs.Simple.{Shape}
use Rattle.clap.specs.Faults.{check_fault, level_fault, settle_fault, turn_fault, walk_fault}
use Rattle.clap.specs.Walk.{Names, Text, Walk, finished, nothing_held, walk, walk_from, walked}
use Rattle.night_words.proofs.TurnLemmas.{first_none, second_none}

-- where the parser begins
abbrev pub start : Walk
start = walk_from nothing_held

-- neither in the words of a level, nor below it
pub words_pass : (s : Shape) (ns : Names) (words : List Text) (has : Bool) (lower : Kinds)
    → level_fault s ns nothing_held words has lower ≡ [] → walk_fault s ns start words ≡ []
words_pass s ns words has lower none = first_none _ _ none

pub lower_passes : (s : Shape) (ns : Names) (words : List Text) (has : Bool) (lower : Kinds)
    → level_fault s ns nothing_held words has lower ≡ [] → lower ≡ []
lower_passes s ns words has lower none = first_none _ _ (second_none _ _ none)

-- neither in the first word, nor in those after it
pub first_passes : (s : Shape) (ns : Names) (w : Walk) (word : Text) (rest : List Text)
    → walk_fault s ns w (word ∷ rest) ≡ [] → turn_fault s ns w word ≡ []
unfolding walk_fault
first_passes s ns w word rest none = first_none _ _ none

pub rest_passes : (s : Shape) (ns : Names) (w : Walk) (word : Text) (rest : List Text)
    → walk_fault s ns w (word ∷ rest) ≡ [] → walk_fault s ns (walked s.rules ns w word) rest ≡ []
unfolding walk_fault
rest_passes s ns w word rest none = second_none _ _ none

-- nor after the last word
pub end_passes : (s : Shape) (words : List Text) → level_fault s [] nothing_held words false [] ≡ []
    → check_fault s (finished s.rules (walk s.rules [] nothing_held words).held) false ≡ []
end_passes s words none =
    second_none _ _ (second_none _ _ (second_none (walk_fault s [] start words) _ none))

pub end_settles : (s : Shape) (words : List Text)
    → level_fault s [] nothing_held words false [] ≡ []
    → settle_fault s.rules s.args_override_self (walk s.rules [] nothing_held words).held ≡ []
end_settles s words none = first_none _ _ (second_none (walk_fault s [] start words) _ none)

-- what each word keeps, of the words so far and of where the walk stands, all of them keep
pub walk_keeps : (s : Shape) (P : List Text → Walk → Type 0)
    → ((seen : List Text) (w : Walk) (word : Text) → P seen w → turn_fault s [] w word ≡ []
    → P (seen ++ word ∷ []) (walked s.rules [] w word))
    → (seen rest : List Text) (w : Walk) → P seen w → walk_fault s [] w rest ≡ []
    → P (seen ++ rest) (fold (walked s.rules []) w rest)
walk_keeps s P step seen [] w at none = subst (λ l. P l w) (sym (append-nil seen)) at
walk_keeps s P step seen (x ∷ rest) w at none =
    subst (λ l. P l (fold (walked s.rules []) w (x ∷ rest))) (append_assoc seen (x ∷ []) rest)
    (walk_keeps s P step (seen ++ x ∷ []) rest (walked s.rules [] w x)
    (step seen w x at (first_passes s [] w x rest none)) (rest_passes s [] w x rest none))
