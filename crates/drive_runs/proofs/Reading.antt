-- A line is added to a part.
use Rattle.std.specs.Prelude.{Option}
use Rattle.drive_lines.specs.declared.reports.Report.{Report}
use Rattle.drive_lines.specs.declared.reports.Report.TheVariants as report
use Rattle.drive_parts.specs.declared.lives.LivesDraft.{LivesDraft}
use Rattle.drive_parts.specs.declared.rounds.HeardDraft.{HeardDraft}
use Rattle.drive_runs.specs.declared.parts.Part.{Part}
use Rattle.drive_runs.specs.declared.parts.Part.TheVariants as part
use Rattle.drive_runs.specs.declared.sittings.Kept.{Kept}
use Rattle.drive_runs.specs.Parts.{Gains, HearsIn}

-- A line of a first round that names no living try is heard as in any round.
pub first_gains : (kept : Kept) (lives : LivesDraft) (draft : HeardDraft) (r : Report)
    (more : Option Part) → HearsIn (part.First kept lives) draft r more
    → Gains (part.First kept lives draft) r more
first_gains kept lives draft (report.Lives named) more hears = tt
first_gains kept lives draft r more hears = hears
