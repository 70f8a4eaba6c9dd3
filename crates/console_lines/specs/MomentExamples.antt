-- The examples: words, and the moments for which they stand.
use Prim.Native.String.{String}
use Rattle.std.specs.Prelude.{◌≡◌, ℕ, codes, Some, None, Ok, Err}
use Rattle.run_model.specs.declared.refusals.Refusal.TheVariants.{MomentOutOfRange}
use Rattle.console_lines.specs.Dates.{moment_text}
use Rattle.console_lines.specs.Moments.{moment_of}

-- The word stands for the moment at this many seconds.
abbrev pub Writes : String → ℕ → Type 0
Writes word seconds = moment_of (codes word) ≡ Some (Ok seconds)

-- The word stands for a moment that is out of range.
abbrev pub IsOutOfRange : String → Type 0
IsOutOfRange word = moment_of (codes word) ≡ Some (Err MomentOutOfRange)

-- The word stands for no moment.
abbrev pub IsNoMoment : String → Type 0
IsNoMoment word = moment_of (codes word) ≡ None

-- The moment at this many seconds has this text.
abbrev pub HasText : ℕ → String → Type 0
HasText seconds word = moment_text seconds ≡ codes word
