-- How each line of the executor is spelled.
use Rattle.std.specs.Prelude.{ℕ, List}
use Rattle.plan_lines.specs.declared.lines.PlanLine.TheVariants as line
use Rattle.drive_lines.specs.declared.fields.Fields.TheVariants as fields
use Rattle.drive_lines.specs.declared.phrases.Phrase.{Phrase}
use Rattle.drive_lines.specs.declared.phrases.Phrase.TheVariants as phrase
use Rattle.drive_lines.specs.declared.reports.Report.{Report}
use Rattle.drive_lines.specs.declared.reports.Report.TheVariants as report
use Rattle.drive_lines.specs.declared.words.LineWord.TheVariants as word
use Rattle.drive_lines.specs.Phrases.{Spells}

-- The phrase of each line.
abbrev pub report_phrase : Report → Phrase
report_phrase (report.Plan l) = phrase.Plan l
report_phrase (report.Group g name) = phrase.Named (line.Group g) name
report_phrase (report.Command o key) = phrase.Named (line.Command o) key
report_phrase (report.Until moment words) = phrase.Own word.Until (fields.NumberText moment words)
report_phrase (report.All moment words) = phrase.Own word.All (fields.NumberText moment words)
report_phrase report.Next = phrase.Own word.Next fields.Alone
report_phrase (report.Lives t) = phrase.Own word.Lives (fields.Lives t)
report_phrase (report.Ended task o) = phrase.Own word.Ended (fields.Ended task o)
report_phrase (report.Gone task) = phrase.Own word.Gone (fields.Number task)
report_phrase (report.Cancel c why) = phrase.Own word.Cancel (fields.NumberText c why)
report_phrase (report.Done g why) = phrase.Own word.Done (fields.NumberText g why)
report_phrase report.Hurry = phrase.Own word.Hurry fields.Alone
report_phrase (report.Ask c) = phrase.Own word.Ask (fields.Number c)
report_phrase (report.First g) = phrase.Own word.First (fields.Number g)

-- A line says this.
abbrev pub SaysReport : Report → (bytes : List ℕ) → Type 0
SaysReport r bytes = Spells (report_phrase r) bytes
