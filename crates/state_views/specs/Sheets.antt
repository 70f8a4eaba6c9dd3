-- The text on a sheet. Only private functions use these definitions, and no public contract cites
-- them.
use Rattle.std.specs.Prelude.{◌≡◌, ℕ, List, [], ◌++◌, Option, true, false}
use Rattle.console_lines.specs.Progress.{WritesPart}
use Rattle.console_lines.specs.Buffered.{Buffered}
use Rattle.state_views.specs.declared.sheets.Sheet.{Sheet}

-- This is the whole text that was added to a sheet. Until a write fails, a prefix of the text was
-- written, and the rest is buffered. After a failure, a proper prefix of it was written.
pub record Holds (text : List ℕ) (sheet : Sheet) (w0 w1 : Option (List ℕ)) : Type 0 where
  pub sound : sheet.failed ≡ false → Buffered text [] sheet.buffer.items w0 w1
  pub cut : sheet.failed ≡ true → WritesPart w0 w1 text

-- This text was added to a sheet, after the text that was on it before.
pub record Adds (text : List ℕ) (old new : Sheet) (w1 w2 : Option (List ℕ)) : Type 0 where
  pub after : (before : List ℕ) (w0 : Option (List ℕ))
      → Holds before old w0 w1 → Holds (before ++ text) new w0 w2
