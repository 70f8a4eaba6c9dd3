-- Lines of a plan with deadlines, and lines by which a plan grows.
use Rattle.std.specs.Prelude.{◌∷◌, ℕ, List, [], codes}
use Rattle.night_plan.specs.declared.commands.Group.{Group}
use Rattle.night_plan.specs.declared.commands.Take.{Take}
use Rattle.night_plan.specs.declared.commands.Way.TheVariants as way
use Rattle.plan_lines.specs.declared.lines.Outline.{Outline}
use Rattle.plan_lines.specs.declared.lines.PlanLine.TheVariants as line
use Rattle.run_model.specs.declared.tasks.Outcome.TheVariants as outcome
use Rattle.drive_lines.specs.declared.reports.Report.{Report}
use Rattle.drive_lines.specs.declared.reports.Report.TheVariants as report
use Rattle.drive_parts.specs.Additions.{Listed}

-- A group that stops on a failure.
abbrev pub stopping : Group
stopping = record { priority = 0; way = way.Stop }

-- A command of a group, without retries.
abbrev pub once : (group : ℕ) → Outline
once group =
    record { group = group; priority = 0; retries = 0; wait = 0; factor = 1; cap = 0 }

-- The command `users` of the session on the page about driven nights, and the command `orders`.
-- Each takes the whole pool.
abbrev pub whole_pool : Take
whole_pool = record { pool = 0; amount = 1 }

abbrev pub users : Listed
users = record {
  outline =
      record { group = 0; priority = 0; retries = 1; wait = 30; factor = 2; cap = 600 };
  needs = [];
  takes = whole_pool ∷ [];
}

abbrev pub orders : Listed
orders = record { outline = once 0; needs = []; takes = whole_pool ∷ [] }

-- The command `files`, which takes all of a new pool.
abbrev pub files : Listed
files =
    record { outline = once 0; needs = []; takes = record { pool = 1; amount = 2 } ∷ [] }

-- Two groups. The second one has a deadline, which comes after its command.
abbrev pub dated : List Report
dated =
    report.Group stopping (codes "dumps")
    ∷ report.Group stopping (codes "tapes")
    ∷ report.Command (once 1) (codes "weekly")
    ∷ report.Plan (line.Take whole_pool)
    ∷ report.Until 9000 (codes "within 2h")
    ∷ []

-- A round in which much is reported, with two times.
abbrev pub busy : List Report
busy =
    report.Plan (line.Now 1000)
    ∷ report.Ended 3 outcome.Success
    ∷ report.Cancel 1 (codes "by hand")
    ∷ report.Gone 2
    ∷ report.Ended 1 (outcome.Failure (codes "exit 1"))
    ∷ report.Done 0 (codes "too late")
    ∷ report.Plan (line.Size 0 4)
    ∷ report.Hurry
    ∷ report.Plan (line.Now 1010)
    ∷ []

-- A round in which the plan grows by a group and a command, and a command is canceled.
abbrev pub growing : List Report
growing =
    report.Group stopping (codes "tapes")
    ∷ report.Command (once 1) (codes "weekly")
    ∷ report.Plan (line.Take whole_pool)
    ∷ report.Cancel 0 (codes "by hand")
    ∷ report.Until 9000 (codes "within 2h")
    ∷ []
