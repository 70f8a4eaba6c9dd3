-- Messages that are printed, as on standard error.
use Rattle.std.specs.Prelude.{◌≡◌, ◌≢◌, ℕ, Bool, true, false, List, Option}
use Rattle.std.specs.Io.KnownBytes.{Appends}

-- The bytes that were written, if they are known, and the number of calls that failed, modulo 2^64.
pub record SinkState : Type 0 where
  pub contents : Option (List ℕ)
  pub failures : ℕ

-- If the text is reported as printed, it was written, and no call failed. If not, a call failed.
abbrev pub IsPrinted : (printed : Bool) → (text : List ℕ) → (e0 e1 : SinkState) → Type 0
IsPrinted printed text e0 e1 =
    (printed ≡ true → Appends e0.contents e1.contents text × (e1.failures ≡ e0.failures))
    × (printed ≡ false → e1.failures ≢ e0.failures)
