-- The table of the jobs, and the table after one more task.
use Rattle.std.specs.Prelude.{ℕ, ◌+◌, min, if◌then◌else◌, List, [], ◌∷◌, Option, Some, None}
use Rattle.std.specs.Str.{bytes_eq}
use Rattle.run_model.specs.declared.tasks.Phase.{Phase}
use Rattle.run_model.specs.declared.tasks.Phase.TheVariants as phase
use Rattle.console_lines.specs.declared.tallies.TaskCounts.{TaskCounts}
use Rattle.console_lines.specs.declared.tallies.JobTally.{JobTally}
use Rattle.console_lines.specs.declared.job_keys.JobKey.{JobKey}

-- The greatest count of a job.
abbrev pub MOST : ℕ
MOST = 65535

-- An entry of the table is a tally.
abbrev pub shown : JobKey × TaskCounts → JobTally
shown entry = record { job = entry.0.name; counts = entry.1 }

-- The counts of a job; none if none of its tasks was counted.
abbrev pub counted_at : List ℕ → List JobTally → Option TaskCounts
counted_at job [] = None
counted_at job (tally ∷ tallies) =
    if bytes_eq job tally.job then Some tally.counts else counted_at job tallies

-- The counts of no task.
abbrev pub no_tasks : TaskCounts
no_tasks = record { total = 0; success = 0; failure = 0; interrupted = 0 }

-- A count plus one, unless it is the greatest already.
abbrev pub raised : ℕ → ℕ
raised n = min (n + 1) MOST

-- The counts with one more task, which is in this phase.
abbrev pub one_more : Phase → TaskCounts → TaskCounts
one_more phase.Success c = record c { total = raised c.total; success = raised c.success }
one_more (phase.Failure error) c = record c { total = raised c.total; failure = raised c.failure }
one_more phase.Interrupted c =
    record c { total = raised c.total; interrupted = raised c.interrupted }
one_more _ c = record c { total = raised c.total }

-- The tallies after the counts of a job were set. A new job goes last.
abbrev pub with_tally : List ℕ → TaskCounts → List JobTally → List JobTally
with_tally job counts [] = record { job = job; counts = counts } ∷ []
with_tally job counts (tally ∷ tallies) =
    if bytes_eq job tally.job then record { job = tally.job; counts = counts } ∷ tallies
    else tally ∷ with_tally job counts tallies
