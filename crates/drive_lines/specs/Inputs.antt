-- What comes next in the input of the program.
use Rattle.std.specs.Prelude.{◌≡◌, ℕ, List, [], Option, Result, Ok, Err}
use Rattle.std.specs.Io.KnownBytes.{IsAtEnd}
use Rattle.console_lines.specs.declared.faults.RunFault.{RunFault}
use Rattle.plan_lines.specs.declared.readers.LineReader.{LineReader}
use Rattle.plan_lines.specs.Reading.{IsOfInput, ReadsLine, ReadsNoLine, held}
use Rattle.drive_lines.specs.declared.inputs.NextLine.{NextLine}
use Rattle.drive_lines.specs.declared.inputs.NextLine.TheVariants as next
use Rattle.drive_lines.specs.declared.reports.Report.{Report}
use Rattle.drive_lines.specs.Reports.{SaysReport}

-- A line that an LF ends was read, and it is empty, or reports something, or is bad, because no
-- report is spelled so. Or no LF was left before the end of the input, or before a fault.
abbrev pub NextRead : Result NextLine RunFault → (old new : LineReader)
    → (r0 r1 : Option (List ℕ)) → Type 0
NextRead (Ok next.InputEnded) r s r0 r1 =
    (bytes : List ℕ) × ReadsNoLine (held r) r0 r1 bytes × IsAtEnd r1
NextRead (Ok next.PartEnded) r s r0 r1 = ReadsLine (held r) (held s) r0 r1 []
NextRead (Ok (next.Report report)) r s r0 r1 =
    (line : List ℕ) × ReadsLine (held r) (held s) r0 r1 line × SaysReport report line
NextRead (Ok next.Bad) r s r0 r1 =
    (line : List ℕ) × ReadsLine (held r) (held s) r0 r1 line × (line ≡ [] → ⊥)
    × ((report : Report) → SaysReport report line → ⊥)
NextRead (Err why) r s r0 r1 =
    (bytes : List ℕ) × ReadsNoLine (held r) r0 r1 bytes × IsOfInput why bytes
