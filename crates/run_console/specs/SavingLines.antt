-- What kind of step a line asks for.
use Rattle.std.specs.Prelude.{Bool, true, false}
use Rattle.run_model.specs.declared.commands.Step.TheVariants as step
use Rattle.console_lines.specs.declared.line_requests.LineRequest.{LineRequest}
use Rattle.console_lines.specs.declared.line_requests.LineRequest.TheVariants as asked

-- The request is a flush or a checkpoint.
abbrev pub IsSaving : LineRequest → Type 0
IsSaving (asked.Step step.Flush) = Unit {0}
IsSaving (asked.Step step.Checkpoint) = Unit {0}
IsSaving _ = ⊥

-- ---- for private functions: no public contract cites what follows

-- The request is a tally, which has a reply for each job.
abbrev pub is_tally : LineRequest → Bool
is_tally asked.Tally = true
is_tally _ = false
