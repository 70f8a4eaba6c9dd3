-- The tasks that are counted for a tally.
use Rattle.std.specs.Prelude.{◌≢◌, ◌<◌, ℕ, List, [], ◌∷◌, map, length, take}
use Rattle.std.proofs.Common.{ap, arith}
use Rattle.std.proofs.lemmas.List.{length-take}
use Rattle.run_model.specs.declared.tasks.Task.{Task}
use Rattle.console_lines.specs.declared.line_replies.LineReply.TheVariants as printed
use Rattle.console_lines.specs.declared.tallies.JobTally.{JobTally}
use Rattle.console_lines.specs.Replies.{reply_lines}
use Rattle.console_lines.specs.Tallies.{tallies_of}

-- Fewer tasks are counted than there can be.
pub few_counted : (tasks : List Task) (n : ℕ) → n < 8192 → length (take n tasks) < 65535
few_counted tasks n h = omega (arith, h, length-take n tasks)

-- Where there is a task there is a tally.
pub has_tally : (tasks : List Task) → 0 < length tasks → 0 < length (tallies_of tasks)
has_tally [] h = absurd (omega (arith, h))
has_tally (task ∷ tasks) h = omega arith

-- Where there is a tally there is a line.
pub has_line : (tallies : List JobTally) → 0 < length tallies
    → reply_lines (map printed.Tally tallies) ≢ []
has_line [] h = absurd (omega (arith, h))
has_line (tally ∷ tallies) h = λ e. absurd (omega (arith, ap length e))
