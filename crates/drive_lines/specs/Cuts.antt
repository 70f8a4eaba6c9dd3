-- Where a line is cut.
use Rattle.std.specs.Prelude.{◌≡◌, ◌==◌, ℕ, Bool, false, List}
use Rattle.std.specs.List.{list_any}
use Rattle.drive_lines.specs.Spaces.{spaced}

-- A byte is a space.
abbrev pub is_space : ℕ → Bool
is_space b = b == 32

-- None of these bytes is a space.
abbrev pub HasNoSpace : List ℕ → Type 0
HasNoSpace bytes = list_any is_space bytes ≡ false

-- A line is cut at its last space.
pub record IsLastCut (line before after : List ℕ) : Type 0 where
  pub whole : spaced before after ≡ line
  pub last : HasNoSpace after
