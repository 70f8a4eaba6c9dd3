-- Texts that are appended to a fixed array, one after the other.
use Rattle.std.specs.Prelude.{◌≡◌, ◌≤◌, ◌+◌, ℕ, List, ◌++◌, length}

-- A text was appended, which took at most this many bytes.
pub record Appended (old new text : List ℕ) (most : ℕ) : Type 0 where
  pub items : new ≡ old ++ text
  pub fits : length new ≤ length old + most

-- A word was appended, and after it a text, which took at most this many bytes.
abbrev pub AppendedAfter : (old new word text : List ℕ) → ℕ → Type 0
AppendedAfter old new word text most = Appended old new (word ++ text) (length word + most)
