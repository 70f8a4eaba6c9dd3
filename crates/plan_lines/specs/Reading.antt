-- How an input is read line by line.
use Rattle.std.specs.Prelude.{◌≡◌, ◌<◌, ◌≤◌, ◌-◌, ◌^◌, ◌++◌, ◌∷◌, ℕ, Bool, true, false, List, []}
use Rattle.std.specs.Prelude.{Option, Result, Ok, Err, length, slice_range, take}
use Rattle.std.specs.Io.KnownBytes.{Consumes, IsAtEnd}
use Rattle.console_lines.specs.declared.faults.RunFault.{RunFault}
use Rattle.console_lines.specs.declared.faults.RunFault.TheVariants as fault
use Rattle.console_lines.specs.Lines.{whole_lines}
use Rattle.plan_lines.specs.declared.readers.LineReader.{LineReader}

-- The bytes that were read from the input, and not yet returned as part of a line.
abbrev pub held : LineReader → List ℕ
held r = slice_range r.buffer r.start r.end

-- A line was read: the bytes that were held, and those that were read after them, up to an LF. What
-- comes after the LF is held. Of a line of more than 256 bytes the first 256 are returned.
pub record ReadsLine (old new : List ℕ) (r0 r1 : Option (List ℕ)) (line : List ℕ) : Type 0 where
  pub bytes : List ℕ
  pub read : Consumes r0 r1 bytes
  pub text : List ℕ
  pub parts : old ++ bytes ≡ text ++ 10 ∷ new
  pub whole : whole_lines [] text ≡ []
  pub returned : line ≡ take 256 text

-- No LF was among the bytes that were held, and those that were read after them.
pub record ReadsNoLine (old : List ℕ) (r0 r1 : Option (List ℕ)) (bytes : List ℕ) : Type 0 where
  pub read : Consumes r0 r1 bytes
  pub none : whole_lines [] (old ++ bytes) ≡ []

-- A fault of an input of which these bytes were read: a read failed, or the input is too long.
abbrev pub IsOfInput : RunFault → List ℕ → Type 0
IsOfInput fault.Input bytes = Unit {0}
IsOfInput fault.InputTooLong bytes = 2 ^ 64 - 2 ≤ length bytes
IsOfInput _ bytes = ⊥

-- Whether there was a line, and what was read.
abbrev pub Reads : Result Bool RunFault → (old new : LineReader) → (r0 r1 : Option (List ℕ))
    → (line : List ℕ) → Type 0
Reads (Ok true) r s r0 r1 line = ReadsLine (held r) (held s) r0 r1 line
Reads (Ok false) r s r0 r1 line =
    (bytes : List ℕ) × ReadsNoLine (held r) r0 r1 bytes × IsAtEnd r1
Reads (Err why) r s r0 r1 line =
    (bytes : List ℕ) × ReadsNoLine (held r) r0 r1 bytes × IsOfInput why bytes

-- ---- for private functions: no public contract cites what follows

-- Bytes were read if none were held, and are held now.
pub record HoldsMore (old new : List ℕ) (r0 r1 : Option (List ℕ)) : Type 0 where
  pub bytes : List ℕ
  pub read : Consumes r0 r1 bytes
  pub holds : new ≡ old ++ bytes

-- Whether any bytes are held. Else the input is at its end.
abbrev pub Fills : Result Bool RunFault → (old new : LineReader) → (r0 r1 : Option (List ℕ))
    → Type 0
Fills (Ok true) r s r0 r1 = HoldsMore (held r) (held s) r0 r1 × (0 < length (held s))
Fills (Ok false) r s r0 r1 = Consumes r0 r1 [] × (held r ≡ []) × IsAtEnd r1
Fills (Err why) r s r0 r1 = Consumes r0 r1 [] × (held r ≡ []) × (why ≡ fault.Input)

-- The bytes that were held were appended to a line, up to an LF if there is one.
abbrev pub TakesPart : Bool → (old new : LineReader) → (line more : List ℕ) → Type 0
TakesPart true r s line more =
    (text : List ℕ) × (held r ≡ text ++ 10 ∷ held s) × (whole_lines [] text ≡ [])
    × (more ≡ take 256 (line ++ text))
TakesPart false r s line more =
    (held s ≡ []) × (whole_lines [] (held r) ≡ []) × (more ≡ take 256 (line ++ held r))
