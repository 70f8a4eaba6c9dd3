-- How much of a text is written, and how much is still buffered.
use Rattle.std.specs.Prelude.{◌≡◌, ℕ, List, ◌++◌, Option}
use Rattle.std.specs.Io.KnownBytes.{Appends}

-- A text was appended to what was buffered before it. A prefix of both was written, and the rest is
-- buffered.
pub record Buffered (text before buffer : List ℕ) (w0 w1 : Option (List ℕ)) : Type 0 where
  pub out : List ℕ
  pub written : Appends w0 w1 out
  pub parts : before ++ text ≡ out ++ buffer
