-- What is written of an answer.
use Rattle.std.specs.Prelude.{◌≡◌, ◌++◌, List, ℕ, Option}
use Rattle.std.specs.Io.KnownBytes.{Appends}
use Rattle.console_lines.specs.Progress.{IsPrefix}

-- A text was written, but for its last bytes, which are buffered.
pub record IsWritten (w0 w1 : Option (List ℕ)) (text buffer : List ℕ) : Type 0 where
  pub out : List ℕ
  pub written : Appends w0 w1 out
  pub parts : text ≡ out ++ buffer

-- A prefix of a text was written, perhaps all of it.
abbrev pub WritesPrefix : Option (List ℕ) → Option (List ℕ) → List ℕ → Type 0
WritesPrefix w0 w1 text = (prefix : List ℕ) × IsPrefix prefix text × Appends w0 w1 prefix
