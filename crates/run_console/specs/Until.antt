-- Where a run ends: after all lines of its input, or after the first rejected one.
use Rattle.std.specs.Prelude.{◌≡◌, ◌<◌, ◌⊎◌, ℕ, List, ◌∷◌, ◌++◌, Option, None, length}
use Rattle.std.specs.Io.KnownBytes.{IsAtEnd}
use Rattle.std.specs.Option.{option_map}
use Rattle.run_model.specs.Session.{Session}
use Rattle.console_lines.specs.declared.rejections.Rejection.{Rejection}
use Rattle.console_lines.specs.declared.rejections.RejectedLine.{RejectedLine}
use Rattle.console_lines.specs.Lines.{lines_of}
use Rattle.console_lines.specs.Strict.{rejection_from, strict_lines}
use Rattle.run_console.specs.declared.untils.Until.{Until}
use Rattle.run_console.specs.declared.untils.Until.TheVariants.{End, FirstRejection}

-- The line, among these, that ends a run, if the first one has this number. A run to the end of its
-- input is ended by none.
abbrev pub rejection_until : Until → ℕ → Session → List (List ℕ) → Option RejectedLine
rejection_until End n s lines = None
rejection_until FirstRejection n s lines = rejection_from n s lines

-- Those of these lines that are run: all of them, or those up to the first rejected one.
abbrev pub lines_until : Until → Session → List (List ℕ) → List (List ℕ)
lines_until End s lines = lines
lines_until FirstRejection s lines = strict_lines s lines

-- What was read begins with these lines, with an LF after the last of them, and fewer bytes than
-- this were read after it.
pub record StandsFirst (lines : List (List ℕ)) (bytes : List ℕ) (few : ℕ) : Type 0 where
  pub prefix : List ℕ
  pub behind : List ℕ
  pub bytes_are : bytes ≡ prefix ++ 10 ∷ behind
  pub lines_are : lines_of prefix ≡ lines
  pub few_after : length behind < few

-- What was read for these lines: the whole input. If a rejected line ends the run, the input may
-- begin with these lines, and then at most one read was made beyond them.
abbrev pub IsReadFor : Until → List (List ℕ) → List ℕ → Option (List ℕ) → Type 0
IsReadFor End lines bytes r1 = IsAtEnd r1
IsReadFor FirstRejection lines bytes r1 = IsAtEnd r1 ⊎ StandsFirst lines bytes 4096

-- ---- for private functions: no public contract cites what follows

-- Why a run ends after a line with this rejection, if it does.
abbrev pub ends_at : Until → Option Rejection → Option Rejection
ends_at End why = None
ends_at FirstRejection why = why

-- The line with this number, if it is rejected.
abbrev pub numbered : ℕ → Option Rejection → Option RejectedLine
numbered n why = option_map (λ x. record { number = n; why = x }) why
