-- The first words of lines, and which fields follow each.
use Rattle.std.specs.Prelude.{ℕ, List, codes}
use Rattle.drive_lines.specs.declared.words.LineWord.{LineWord}
use Rattle.drive_lines.specs.declared.words.LineWord.TheVariants as word
use Rattle.drive_lines.specs.declared.words.Shape.{Shape}
use Rattle.drive_lines.specs.declared.words.Shape.TheVariants as shape

-- The spelling of each word.
abbrev pub word_text : LineWord → List ℕ
word_text word.Until = codes "until"
word_text word.All = codes "all"
word_text word.Next = codes "next"
word_text word.Lives = codes "lives"
word_text word.Ended = codes "ended"
word_text word.Gone = codes "gone"
word_text word.Cancel = codes "cancel"
word_text word.Done = codes "done"
word_text word.Hurry = codes "hurry"
word_text word.Ask = codes "ask"
word_text word.First = codes "first"

-- Which fields follow each word.
abbrev pub shape_of : LineWord → Shape
shape_of word.Until = shape.NumberText
shape_of word.All = shape.NumberText
shape_of word.Next = shape.Alone
shape_of word.Lives = shape.Lives
shape_of word.Ended = shape.Ended
shape_of word.Gone = shape.Number
shape_of word.Cancel = shape.NumberText
shape_of word.Done = shape.NumberText
shape_of word.Hurry = shape.Alone
shape_of word.Ask = shape.Number
shape_of word.First = shape.Number
